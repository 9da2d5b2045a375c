mod Tally
mod Triples
mod Near
mod Narrow
mod Gains
mod Scan
