-- What the table program writes.
pub mod Table
pub mod Private
