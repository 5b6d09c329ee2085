mod Compared
mod Fits
mod Judged
mod Lists
mod Put
mod Reading
