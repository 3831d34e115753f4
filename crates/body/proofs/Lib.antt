-- Laws of the parts. No contract cites them.
mod ColumnsTaken
mod InTurn
