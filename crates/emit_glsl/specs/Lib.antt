pub use Rattle.unit_rules.specs.Translation
pub use Rattle.unit_rules.specs.Unit
pub use Rattle.unit_rules.specs.Text
pub mod Given
