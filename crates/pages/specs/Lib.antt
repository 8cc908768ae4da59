-- What a slip, a page and the lines on it are, and when they are sound: each file says which paragraph of document 01
-- it states.
pub mod Line
pub mod Gathering
pub mod Page
pub mod Mode
pub mod Sound
pub mod Lawful
pub mod Budget
pub mod Private
