-- The names of metrics stand in `metrics`, and are passed on to the crates above.
unfoldable pub use Rattle.metrics.specs.Names.{metric_named}
