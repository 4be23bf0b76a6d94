-- Document 01, "Conditions": what a seat and the desk ask of a condition, by the definitions of the crate of conditions. A
-- text is accepted where it passes Open's checks, `check_of` gives the number of the first check that it fails, and
-- `result_at` is its result at a row of fields, in a zone; `judged` is what a judgement says.
pub use Rattle.condition.specs.Condition.{max_length, accepted, check_of, Result, hit, miss, unreadable, result_at, judged}
