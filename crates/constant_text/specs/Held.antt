-- What is kept beside a module to tell how its constants are read.
use Rattle.std.specs.Prelude.{ℕ, ◌≡◌, Bool, List}
use Rattle.std.specs.List.{list_any}
use Rattle.std.specs.BTreeMap.{BTreeMap, get}
use Rattle.std.specs.Ordering.{nat_cmp}
use Rattle.spv_module.specs.declared.inst.Inst.{Inst}
use Rattle.profile_rules.specs.declared.given.Given.{Given}
use Rattle.profile_rules.specs.Constants.{given_to}
use Rattle.text_rules.specs.Constants.{Source, size_ids}
use Rattle.constant_text.specs.SpecIds.{is_spec_id_row}

-- the decorations are the module's, and so are the ids of the parts of the size of workgroups; whether there is a SpecId is known; each SpecId is given its override
pub record IsHeld (s : Source) (heads : List Inst) (specialized : Bool) (given : BTreeMap ℕ Given) (parts : List ℕ) : Type 0 where
  pub decor : heads ≡ s.of.heads
  pub specialized_is : specialized ≡ list_any is_spec_id_row s.of.heads
  pub given_are : (id : ℕ) → get nat_cmp given id ≡ given_to s.overrides id
  pub parts_are : parts ≡ size_ids s
