-- Atomics, lengths of runtime arrays and phis, told in shapes.
use Rattle.std.proofs.Common.{◌≡◌, ◌+◌, ◌==◌, ◌%◌, ◌&&◌, ℕ, Bool, true, false, List, [], ◌∷◌, map, Option, Some, None, refl, sym, ap, ◌∙◌, subst, arith}
use Rattle.std.specs.Prelude.{filter}
use Rattle.std.specs.List.{list_any, enumerate_from}
use Rattle.std.proofs.lemmas.Bool.Decides.{nat_tests}
use Rattle.std.proofs.lemmas.Option.{same_Some}
use Rattle.spv_ops.specs.Opcode.{is}
use Rattle.spv_ops.specs.declared.Op.TheVariants as code
use Rattle.spv_module.specs.declared.inst.Inst.{Inst}
use Rattle.spv_module.specs.declared.inst.Function.{Function}
use Rattle.spv_types.specs.Tree.{Tree, boolean, int, uint, vector, array, runtime, struct}
use Rattle.spv_types.specs.Types.{tree_before, type_tree}
use Rattle.spv_index.specs.Locals.{type_in}
use Rattle.profile_rules.specs.TypeRows.{is_int, is_uint, fails, is_other}
use Rattle.profile_rules.specs.FlowRules.{every_second}
use Rattle.module_semantics.specs.Setting.{Setting}
use Rattle.module_semantics.specs.Steps.{source_from}
use Rattle.list_law.proofs.Tests.{or_left, or_right}
use Rattle.list_law.proofs.Numbers.{even_again}
use Rattle.fits_law.specs.Takes.{numbers, Has}
use Rattle.fits_law.specs.State.{value_shape}
use Rattle.fits_law.specs.Typed.{IsOfWords}
use Rattle.type_law.proofs.Rows.{int_has}
use Rattle.type_law.proofs.Operands.{same_shape_of}
use Rattle.type_law.proofs.Choices.{passes}
use Rattle.type_law.proofs.Parts.{row}

-- a number has any word
any_word : (t : Tree) → Has numbers None t → IsOfWords (Some t)
any_word int h w = refl
any_word uint h w = refl
any_word boolean h w = absurd h
any_word (vector e n) h w = absurd h
any_word (array t l) h w = absurd h
any_word (runtime t) h w = absurd h
any_word (struct id ts) h w = absurd h

module _ (s : Setting) (f : Function) where
  abbrev Gs : List Inst
  Gs = s.of.globals

  abbrev T : ℕ → Option ℕ
  T = type_in s.of.globals f

  -- a value of an int type may have any word
  pub int_words : (ty id : ℕ) (t : Tree) → fails is_int Gs ty ≡ false → type_tree Gs ty ≡ Some t → value_shape s f id ≡ Some t → IsOfWords (value_shape s f id)
  int_words ty id t right shape value =
      let g = row s f ty t shape in
      subst (λ o. IsOfWords o) (sym value) (any_word t (int_has Gs (tree_before Gs g.0.at) g.0 t (passes s f is_int ty g.0 g.1 right) g.2))

  -- T7: a length is a uint
  pub length_typed : (ty id : ℕ) (t : Tree) → fails is_uint Gs ty ≡ false → type_tree Gs ty ≡ Some t → value_shape s f id ≡ Some t → IsOfWords (value_shape s f id)
  length_typed ty id t right shape value =
      let g = row s f ty t shape in
      subst (λ o. IsOfWords o) (sym value) (any_word t (int_has Gs (tree_before Gs g.0.at) g.0 t (and_left (is g.0.op code.TypeInt) _ _ (passes s f is_uint ty g.0 g.1 right)) g.2))
    where
      and_left : (a b c : Bool) → (a && b && c) ≡ true → a ≡ true
      and_left true b c e = refl
      and_left false b c e = cc

-- of words in pairs, the first of each
odd_after : (n : ℕ) → (n % 2 == 0) ≡ true → ((n + 1) % 2 == 0) ≡ false
odd_after n e = grind (arith, nat_tests, e)

abbrev seconds : ℕ → List ℕ → List ℕ
seconds n ws = map (λ (o : ℕ × ℕ). o.1) (filter (λ (o : ℕ × ℕ). o.0 % 2 == 0) (enumerate_from n ws))

pair_first : (n a b : ℕ) (ws : List ℕ) → (n % 2 == 0) ≡ true → seconds n (a ∷ b ∷ ws) ≡ a ∷ seconds (n + 1 + 1) ws
pair_first n a b ws e = rw (e, odd_after n e) refl

pub source_passes : (test : ℕ → Bool) (n from id : ℕ) (ws : List ℕ) → (n % 2 == 0) ≡ true → list_any test (seconds n ws) ≡ false → source_from from ws ≡ Some id → test id ≡ false
source_passes test n from id [] e right is = cc
source_passes test n from id (a ∷ []) e right is = cc
source_passes test n from id (a ∷ b ∷ ws) e right is =
    let parts : list_any test (a ∷ seconds (n + 1 + 1) ws) ≡ false = ap (list_any test) (sym (pair_first n a b ws e)) ∙ right in
    by_label (b == from) (or_left (test a) (list_any test (seconds (n + 1 + 1) ws)) parts) (source_passes test (n + 1 + 1) from id ws (even_again n e) (or_right (test a) (list_any test (seconds (n + 1 + 1) ws)) parts)) is
  where
    by_label : (t : Bool) → test a ≡ false → (source_from from ws ≡ Some id → test id ≡ false) → elim t [ true ↦ Some a | false ↦ source_from from ws ] ≡ Some id → test id ≡ false
    by_label true own later is = let same : a ≡ id = same_Some a id is in subst (λ x. test x ≡ false) same own
    by_label false own later is = later is

module _ (s : Setting) (f : Function) where
  -- T22: what a phi takes has its own shape, where both have shapes
  pub phi_typed : (i : Inst) (t : Tree) → list_any (is_other s.of.globals (type_in s.of.globals f) i.ty) (every_second 0 i.args) ≡ false → type_tree s.of.globals i.ty ≡ Some t → value_shape s f i.result ≡ Some t
      → ((from id : ℕ) → source_from from i.args ≡ Some id → (u : Tree) × (value_shape s f id ≡ Some u)) → (from id : ℕ) → source_from from i.args ≡ Some id → value_shape s f id ≡ value_shape s f i.result
  phi_typed i t right shape result have from id is =
      let own = have from id is in
      let same = same_shape_of s f i.ty id t own.0 (source_passes (is_other s.of.globals (type_in s.of.globals f) i.ty) 0 from id i.args refl right is) shape own.1 in
      own.1 ∙ ap (λ x. Some x) same ∙ sym result
