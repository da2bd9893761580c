-- Which types are integers with a sign.
use Rattle.std.proofs.Common.{◌≡◌, ℕ, ◌==◌, ◌&&◌, Bool, true, false, List, Option, Some, None, refl, arith, option_map, nat_le, slice_index, if◌then◌else◌}
use Rattle.std.specs.Option.{option_map_or}
use Rattle.std.proofs.lemmas.Bool.{eqb-true}
use Rattle.spv_ops.specs.Opcode.{is, number}
use Rattle.spv_ops.specs.declared.Op.{Op}
use Rattle.spv_ops.specs.declared.Op.TheVariants as code
use Rattle.spv_module.specs.Held.{global}
use Rattle.spv_module.specs.Types.{is_sint}
use Rattle.spv_module.specs.declared.inst.Inst.{Inst}
use Rattle.spv_module.specs.declared.tree.Elem.{Elem}
use Rattle.spv_module.specs.declared.tree.Length.{Length}
use Rattle.spv_types.specs.Tree.{Tree, Trees, int, uint, vector, runtime, struct}
use Rattle.spv_types.specs.Types.{kind, tree_by_kind, int_tree, vector_tree, sized_vector, elem_of, array_tree, all_trees, length_by, tree_at, tree_before}
use Rattle.memory_places.specs.Types.{is_signed_tree}

pick : (a z o : Bool) → (z ≡ true → o ≡ true → ⊥) → is_signed_tree (if a then (if z then Some uint else (if o then Some int else None)) else None) ≡ (a && o)
pick false z o apart = refl
pick true true true apart = absurd (apart refl refl)
pick true true false apart = refl
pick true false true apart = refl
pick true false false apart = refl

of_int : (w s : ℕ) → is_signed_tree (int_tree w s) ≡ ((w == 32) && (s == 1))
of_int w s = pick (w == 32) (s == 0) (s == 1) (λ z o. let zero : s ≡ 0 = eqb-true s 0 z in let one : s ≡ 1 = eqb-true s 1 o in absurd (omega (arith, zero, one)))

sized : (b : Bool) (n : ℕ) (e : Elem) → is_signed_tree (if b then Some (vector e n) else None) ≡ false
sized true n e = refl
sized false n e = refl

component : (e : Option Elem) (n : ℕ) → is_signed_tree (option_map_or (sized_vector n) e None) ≡ false
component None n = refl
component (Some e) n = sized (nat_le 2 n && nat_le n 4) n e

no_vector : (t : Option Tree) (n : ℕ) → is_signed_tree (vector_tree t n) ≡ false
no_vector None n = refl
no_vector (Some t) n = component (elem_of t) n

no_array : (t : Option Tree) (l : Option Length) → is_signed_tree (array_tree t l) ≡ false
no_array None l = refl
no_array (Some t) None = refl
no_array (Some t) (Some l) = refl

no_runtime : (t : Option Tree) → is_signed_tree (option_map runtime t) ≡ false
no_runtime None = refl
no_runtime (Some t) = refl

no_struct : (id : ℕ) (ts : Option Trees) → is_signed_tree (option_map (struct id) ts) ≡ false
no_struct id None = refl
no_struct id (Some ts) = refl

signed_by : (gs : List Inst) (f : ℕ → Option Tree) (g : Inst) (o : Op) → is_signed_tree (tree_by_kind gs f g (kind o)) ≡ (is o code.TypeInt && (slice_index g.args 0 == 32) && (slice_index g.args 1 == 1))
unfolding kind number
signed_by gs f g code.TypeInt = of_int (slice_index g.args 0) (slice_index g.args 1)
signed_by gs f g code.TypeVector = no_vector (f (slice_index g.args 0)) (slice_index g.args 1)
signed_by gs f g code.TypeArray = no_array (f (slice_index g.args 0)) (length_by (slice_index g.args 1) (global gs (slice_index g.args 1)))
signed_by gs f g code.TypeRuntimeArray = no_runtime (f (slice_index g.args 0))
signed_by gs f g code.TypeStruct = no_struct g.result (all_trees f g.args)
signed_by gs f g _ = refl

pub signed_type : (gs : List Inst) (g : Inst) → is_signed_tree (tree_at gs g) ≡ is_sint g
signed_type gs g = signed_by gs (tree_before gs g.at) g g.op
