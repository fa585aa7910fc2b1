-- The plan while its first flow is looked for: the arcs so far are held.
pub mod Fixing
