-- What is said of steps.
pub use Rattle.spv_types.specs.View.{tree_of, value_of}
pub use Rattle.group_items.specs.Sides.{told_of, IsWhole}
pub use Rattle.memory_places.specs.Kernel.{plain, setting_for, ForEach}
pub use Rattle.run_state.specs.Ids.{held_of, ids_of, root_of, variables_of}
pub use Rattle.run_state.specs.Confs.{behind, conf_of, frame_of, function_at}
pub use Rattle.run_acts.specs.Narrowed.{narrowed, told_words}
pub use Rattle.run_acts.specs.Acts.{IsAct, IsStepOf, IsStill}
