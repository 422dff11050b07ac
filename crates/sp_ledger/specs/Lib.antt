-- What has to be believed: what the spool is, what each event does to it, and what each query is answered.
pub mod Limits
pub mod Ledger
pub mod Changes
pub mod Step
pub mod OnEndpoints
pub mod Publish
pub mod Endings
pub mod OnFlows
pub mod OnCopies
pub mod Events
pub mod Tally
pub mod Answer
pub mod Asked
-- What the laws say of it.
pub mod One
pub mod Sound
pub mod Rising
pub mod Told
pub mod Turns
pub mod Order
-- What only the proofs need: where each kind of change may be made, and which copies may end.
pub mod Allowed
pub mod MayEnd
