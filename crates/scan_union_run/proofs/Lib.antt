mod Reading
mod Stopping
mod Running
mod Answering
