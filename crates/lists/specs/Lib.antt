-- Lent lists that are written from the front: entries, and a plan as a flat list of arcs and a list of supplies.
pub mod Written
