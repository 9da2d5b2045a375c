mod Pairs
mod Scan
mod Marks
mod Told
