mod Least
mod Told
