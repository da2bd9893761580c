-- A block takes a layout where no rule on layout is broken.
use Rattle.std.proofs.Common.{◌≡◌, ℕ, true, List, Option, Some, None, refl, sym, subst, if◌then◌else◌}
use Rattle.std.specs.Prelude.{is_none, IsSomeAnd}
use Rattle.spv_words.specs.declared.rule.Rule.{Rule}
use Rattle.spv_module.specs.State.{ModuleState}
use Rattle.spv_module.specs.Held.{global}
use Rattle.spv_module.specs.declared.inst.Inst.{Inst}
use Rattle.list_law.proofs.Lists.{found_passes}
use Rattle.layout_rules.specs.declared.Kind.{Kind}
use Rattle.layout_rules.specs.declared.Kind.TheVariants.{Std140}
use Rattle.layout_rules.specs.Blocks.{Member, members_of, members_break, block_rules, first_broken, kind_of_members, first_at, kind_at, block_of, IsBrokenBy, BreaksAt, Broken}

-- the members break a rule by the first layout, where they take none
first_breaks : (heads gs : List Inst) (first : Kind) (ms : List Member) → kind_of_members heads gs first ms ≡ None → (rule : Rule) × (members_break heads gs first ms rule ≡ true)
first_breaks heads gs first ms e = by_first (first_broken heads gs first ms) refl e
  where
    by_first : (o : Option Rule) → first_broken heads gs first ms ≡ o → (if is_none o then Some first else (if is_none (first_broken heads gs Std140 ms) then Some Std140 else None)) ≡ None → (rule : Rule) × (members_break heads gs first ms rule ≡ true)
    by_first None is e = cc
    by_first (Some rule) is e = (rule, found_passes (members_break heads gs first ms) block_rules rule is)

pub kind_there : (m : ModuleState) (id : ℕ) (v g : Inst) → ((rule : Rule) (at : ℕ) → Broken m rule at → ⊥) → global m.globals id ≡ Some v → block_of m.globals v ≡ Some g → (k : Kind) × (kind_at m.heads m.globals v g ≡ Some k)
kind_there m id v g right is block = by_kind (kind_at m.heads m.globals v g) refl
  where
    by_kind : (o : Option Kind) → kind_at m.heads m.globals v g ≡ o → (k : Kind) × (kind_at m.heads m.globals v g ≡ Some k)
    by_kind (Some k) e = (k, e)
    by_kind None e =
        let (rule, breaks) = first_breaks m.heads m.globals (first_at m.heads v g) (members_of m.heads m.globals g) e in
        let here : BreaksAt m.heads m.globals v rule = subst (λ (o : Option Inst). IsSomeAnd o (λ block. IsBrokenBy m.heads m.globals v block rule)) (sym block) (e, breaks) in
        absurd (right rule v.at (id, subst (λ (o : Option Inst). IsSomeAnd o (λ w. (v.at ≡ w.at) × BreaksAt m.heads m.globals w rule)) (sym is) (refl, here)))
