mod AfterDrop
mod AppendOnly
mod Bases
mod KeysAndTypes
mod Lists
