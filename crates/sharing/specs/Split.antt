-- The factor of a split stands in `metrics`, and is passed on to the crates above.
pub use Rattle.metrics.specs.Split.{Inputs, with_risks, split_of_both}
unfoldable pub use Rattle.metrics.specs.Split.{bounded, split_by, by_risk, fair, by_ratio, scored, split_of}
