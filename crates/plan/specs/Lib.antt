-- Document 01 as definitions, in its order: what a plan is and what turns it down, flows, node sets, reasons, and what it
-- means that one plan keeps another's limits.
pub mod Limits
pub mod Plan
pub mod Verdict
pub mod Flow
pub mod Shortage
pub mod Reason
pub mod Keeping
