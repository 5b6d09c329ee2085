mod Greatest
mod Started
