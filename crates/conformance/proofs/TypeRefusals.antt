-- The rules on types are all that `broken` tells of.
use Rattle.std.proofs.Common.{◌≡◌, ℕ, Bool, true, false, List, [], ◌∷◌, ◌++◌, Option, None, Some, if◌then◌else◌, refl}
use Rattle.std.specs.Option.{option_map_or}
use Rattle.std.specs.List.{All, Contains, flat_map}
use Rattle.std.proofs.lemmas.List.Elements.{All-append, All-cons, All-contains, All-nil}
use Rattle.std.proofs.lemmas.List.Concat.{flat_map-cons}
use Rattle.spv_words.specs.Rule.{letter_of}
use Rattle.spv_words.specs.declared.rule.Rule.{Rule}
use Rattle.spv_words.specs.declared.rule.Rule.TheVariants.{T1, T21}
use Rattle.spv_words.specs.declared.rule.Refusal.{Refusal}
use Rattle.spv_ops.specs.Opcode.{is, op_of}
use Rattle.spv_ops.specs.declared.Op.{Op}
use Rattle.spv_ops.specs.declared.Op.TheVariants as code
use Rattle.spv_module.specs.State.{ModuleState}
use Rattle.spv_module.specs.declared.inst.Inst.{Inst}
use Rattle.spv_module.specs.declared.inst.Block.{Block}
use Rattle.spv_module.specs.declared.inst.Function.{Function}
use Rattle.spv_decor.specs.Rows.{word}
use Rattle.spv_ops.specs.OpGroups.{group_of}
use Rattle.spv_ops.specs.declared.OpGroup.{OpGroup}
use Rattle.spv_ops.specs.declared.OpGroup.TheVariants as groups
use Rattle.spv_ops.specs.declared.Terminator.{Terminator}
use Rattle.spv_ops.specs.declared.Terminator.TheVariants as exit
use Rattle.profile_rules.specs.Operands.{breaks_t1, breaks_t1_in, breaks_t1_of}
use Rattle.profile_rules.specs.FlowRules.{breaks_t21_of}
use Rattle.profile_rules.specs.TypeRules.{rule_of, rule_at_end, broken_if, is_broken_outside, is_broken_in, broken_as, inner, broken_inside, broken_by_global, broken_by_local, broken_by_block, broken_by_function, broken}

-- by a rule with the letter T
abbrev pub IsOnTypes : Refusal → Type 0
IsOnTypes r = letter_of r.rule ≡ 84

none : All IsOnTypes []
none = All-nil IsOnTypes

of_one : (b : Bool) (rule : Rule) (at : ℕ) → letter_of rule ≡ 84 → All IsOnTypes (broken_if b rule at)
of_one true rule at is = All-cons IsOnTypes _ [] is none
of_one false rule at is = none

of_each : {X : Type 0} (f : X → List Refusal) → ((x : X) → All IsOnTypes (f x)) → (xs : List X) → All IsOnTypes (flat_map f xs)
of_each f each [] = none
of_each f each (x ∷ xs) = rw (flat_map-cons f x xs) (All-append IsOnTypes (f x) (flat_map f xs) (each x) (of_each f each xs))

at_end : (e : Terminator) → letter_of (rule_at_end e) ≡ 84
at_end exit.Branch = refl
at_end _ = refl

on_group : (g : OpGroup) → letter_of (rule_of g) ≡ 84
on_group (groups.Terminator e) = at_end e
on_group _ = refl

module _ (m : ModuleState) where
  as_opcode : (i : Inst) (op : Op) → All IsOnTypes (broken_as m i op)
  as_opcode i op = of_one (is_broken_outside m i (group_of op)) (rule_of (group_of op)) i.at (on_group (group_of op))

  as_known : (i : Inst) (o : Option Op) → All IsOnTypes (option_map_or (broken_as m i) o [])
  as_known i None = none
  as_known i (Some op) = as_opcode i op

  inside : (g : Inst) → All IsOnTypes (broken_inside m g)
  inside g = elim (is g.op code.SpecConstantOp) as (λ b. All IsOnTypes (if b then option_map_or (broken_as m (inner g)) (op_of (word g 0)) [] else [])) [
    | true ↦ as_known (inner g) (op_of (word g 0))
    | false ↦ none
  ]

  by_global : (g : Inst) → All IsOnTypes (broken_by_global m g)
  by_global g =
      All-append IsOnTypes (broken_if (breaks_t1 m.globals g) T1 g.at) (broken_as m g g.op ++ broken_inside m g) (of_one _ T1 _ refl)
      (All-append IsOnTypes (broken_as m g g.op) (broken_inside m g) (as_opcode g g.op) (inside g))

  by_local : (f : Function) (b : Block) (i : Inst) → All IsOnTypes (broken_by_local m f b i)
  by_local f b i =
      All-append IsOnTypes (broken_if (breaks_t1_in m f i) T1 i.at) (broken_if (is_broken_in m f b i (group_of i.op)) (rule_of (group_of i.op)) i.at) (of_one _ T1 _ refl)
      (of_one (is_broken_in m f b i (group_of i.op)) (rule_of (group_of i.op)) i.at (on_group (group_of i.op)))

  by_function : (f : Function) → All IsOnTypes (broken_by_function m f)
  by_function f =
      let blocks : All IsOnTypes (flat_map (broken_by_block m f) f.blocks) = of_each (broken_by_block m f) (λ b. of_each (broken_by_local m f b) (by_local f b) b.insts) f.blocks in
      let more : All IsOnTypes (broken_if (breaks_t21_of m.globals f) T21 f.at ++ flat_map (broken_by_block m f) f.blocks) =
      All-append IsOnTypes (broken_if (breaks_t21_of m.globals f) T21 f.at) (flat_map (broken_by_block m f) f.blocks) (of_one _ T21 _ refl) blocks in
      All-append IsOnTypes (broken_if (breaks_t1_of m.globals f) T1 f.at) (broken_if (breaks_t21_of m.globals f) T21 f.at ++ flat_map (broken_by_block m f) f.blocks) (of_one _ T1 _ refl) more

  -- a refusal that `broken` tells of is by a rule on types
  pub on_types : (r : Refusal) → Contains (broken m) r → letter_of r.rule ≡ 84
  on_types r h = All-contains IsOnTypes (broken m) r
      (All-append IsOnTypes (flat_map (broken_by_global m) m.globals) (flat_map (broken_by_function m) m.functions) (of_each (broken_by_global m) by_global m.globals) (of_each (broken_by_function m) by_function m.functions)) h
