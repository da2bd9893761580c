-- An accepted module, and the names of its text, are as the laws of constants ask.
use Rattle.std.proofs.Common.{◌≡◌, ℕ, List, Option, Some, None, refl}
use Rattle.std.specs.Prelude.{IsSomeAnd}
use Rattle.spv_module.specs.State.{ModuleState}
use Rattle.spv_module.specs.declared.inst.Inst.{Inst}
use Rattle.spv_decor.specs.Rows.{word}
use Rattle.conformance.specs.Rules.{Options}
use Rattle.module_check.specs.Judged.{IsFine}
use Rattle.module_check.specs.ReadFrom.{IsReadFrom}
use Rattle.profile_rules.specs.Entry.{chosen as chosen_entry}
use Rattle.traces.specs.Invocations.{Invocation, IsInvocation}
use Rattle.module_semantics.specs.Setting.{Setting}
use Rattle.name_alloc.specs.declared.claims.Key.{Key}
use Rattle.glsl_ast.specs.Tree.{Text, TranslationUnit}
use Rattle.text_rules.specs.Printed.{Reached}
use Rattle.text_rules.specs.Claims.{claims}
use Rattle.unit_rules.specs.Unit.{source_of, IsUnitOf}
use Rattle.type_law.specs.Shaped.{HasConstants}
use Rattle.typed_law.specs.Conforms.{IsConforming}
use Rattle.accepted_law.proofs.Accepted.{accepted_conforming}
use Rattle.global_law.specs.Sources.{chosen}
use Rattle.global_law.specs.Items.{AreAsked}
use Rattle.global_law.proofs.Constant.Conforming.{spec_ids_are, sizes_conform}
use Rattle.claim_law.specs.Claimed.{HasKey, HasName}
use Rattle.claim_law.proofs.Claim.Named.{Plans, has_name_of}
use Rattle.item_law.proofs.Named.{have_names, constant_members}
use Rattle.text_law.proofs.Naming.Keys.{S, found as names_found, R}
use Rattle.text_law.specs.Left.{IsLeftOfGlobals}
use Rattle.text_law.proofs.Outside.OfWords.{setting_of_bytes}

module _ (bytes : List ℕ) (m : ModuleState) (o : Options) (read : IsReadFrom bytes m) (fine : IsFine m o) (unit : TranslationUnit) (u : IsUnitOf m o unit) (inv : Invocation) (told : IsInvocation inv) (left : IsLeftOfGlobals bytes m o) where
  abbrev s : Setting
  s = S m o unit u inv

  abbrev found : Key → Option Text
  found = names_found m o unit u inv

  abbrev r : Reached
  r = R m o unit u inv

  pub right : IsConforming m o.entry
  right = accepted_conforming bytes m o read fine

  pub have : HasConstants s (chosen s o.overrides)
  have = λ id. refl

  -- the entry point that is chosen, whose function the text begins with
  entry_of : (q : Option Inst) → chosen_entry o.entry m.heads ≡ q → IsSomeAnd q (λ (i : Inst). u.entry ≡ word i 1) → (e : Inst) × (chosen_entry o.entry m.heads ≡ Some e) × (u.entry ≡ word e 1)
  entry_of None at is = absurd is
  entry_of (Some e) at is = (e, at, is)

  -- each key that the text claims has a name
  pub claimed : (k : Key) → HasKey k (claims (source_of m o u.entry) r (Plans m o unit u)) → HasName found k
  claimed = has_name_of m o unit u

  pub are_asked : AreAsked s o.entry o.overrides found r
  are_asked =
      let e = entry_of (chosen_entry o.entry m.heads) refl u.is_entry in
      record {
        right = right;
        have = have;
        low = (setting_of_bytes bytes m read left.octets u.entry o.overrides left.given inv told).constants;
        names = have_names s o.entry right o.overrides found r (Plans m o unit u) u.lawful claimed;
        spec_ids = spec_ids_are s o.entry right o.overrides left.decorated.0;
        sizes = sizes_conform s o.entry right o.overrides e.0 e.1 e.2;
        members = constant_members s o.entry right o.overrides found r (Plans m o unit u) u.lawful claimed;
      }
