-- Laws of the parts, and of a table of which only so many labels are looked at as its arrays hold.
mod ChainRows
mod SameChains
