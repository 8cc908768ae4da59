-- Demand 3: what is true of every session, with saves and loads, in either mode (documents 01 and 02).
pub mod Run
