mod Reading
mod Words
mod Parts
mod OptionWords
mod Taken
mod Answers
mod Stale
