-- A constant that is written needs its operands, which stand before it.
use Rattle.std.proofs.Common.{◌≡◌, ◌<◌, ◌≤◌, ◌+◌, ◌==◌, ◌||◌, ◌&&◌, ℕ, zero, suc, Bool, true, false, List, [], ◌∷◌, length, take, drop, not, Option, Some, inl, inr, refl, sym, ap, subst, ◌∙◌, arith}
use Rattle.std.specs.Prelude.{◌⊎◌, ◌-◌, nat_le, nat_lt, is_some, slice_index}
use Rattle.std.specs.Option.{option_map_or}
use Rattle.std.specs.List.{list_any, enumerate_from}
use Rattle.std.proofs.lemmas.Bool.Decides.{nat_tests}
use Rattle.std.proofs.lemmas.Bool.{and_from, false_from_ne_true, not-false, or_cases}
use Rattle.std.proofs.lemmas.Option.{same_Some}
use Rattle.spv_ops.specs.Opcode.{is, number}
use Rattle.spv_ops.specs.Operands.{operands, inner_of, is_in_part, ids_among, is_id}
use Rattle.spv_ops.specs.declared.operands.Operands.{Operands}
use Rattle.spv_ops.specs.declared.operands.Operands.TheVariants.{IdsFirst, LiteralsFirst, IdLiteralIds, EntryPoint, SpecConstantOp, Switch}
use Rattle.spv_ops.specs.declared.Op.{Op}
use Rattle.spv_ops.specs.declared.Op.TheVariants as code
use Rattle.spv_module.specs.Held.{global}
use Rattle.spv_module.specs.State.{ModuleState}
use Rattle.spv_module.specs.Inst.{has_type}
use Rattle.spv_module.specs.declared.inst.Inst.{Inst}
use Rattle.spv_types.specs.Types.{earlier}
use Rattle.profile_rules.specs.declared.needs.Need.{Need}
use Rattle.profile_rules.specs.Operands.{need, type_need, suits, is_there, lacks_operand}
use Rattle.list_law.proofs.Numbers.{less_is, same_number}
use Rattle.plan_law.specs.InOrder.{IsAmong, AreRising}
use Rattle.text_rules.specs.Constants.{Source, is_constant, reading, free_spec_id}
use Rattle.text_rules.specs.Printed.{is_named, has_operand, has_operand_from, declares, needed_with, needed_from}
use Rattle.typed_law.specs.Conforms.{IsConforming}
use Rattle.typed_law.proofs.Lists.{or_left, or_right, and_left, and_right, and_off, earlier_some, some_by}
use Rattle.typed_law.proofs.Rules.{global_there}
use Rattle.typed_law.proofs.Sized.{rising_low}
use Rattle.typed_law.proofs.Used.{global_found}

-- an operand is an id that is there
operand_there : (there : Need → ℕ → Bool) (i : Inst) (n : ℕ) (ps : List (ℕ × ℕ)) → list_any (lacks_operand there i) ps ≡ false → list_any (λ (p : ℕ × ℕ). is_id i.op i.args p.0 && (p.1 == n)) ps ≡ true → (which : Need) × (there which n ≡ true)
operand_there there i n [] off on = cc
operand_there there i n (p ∷ ps) off on =
    by_first (or_cases (is_id i.op i.args p.0 && (p.1 == n)) (list_any (λ (p : ℕ × ℕ). is_id i.op i.args p.0 && (p.1 == n)) ps) on)
    (or_left (is_id i.op i.args p.0 && not (there (need i.op p.0) p.1)) (list_any (lacks_operand there i) ps) off) (operand_there there i n ps (or_right (is_id i.op i.args p.0 && not (there (need i.op p.0) p.1)) (list_any (lacks_operand there i) ps) off))
  where
    by_first : ((is_id i.op i.args p.0 && (p.1 == n)) ≡ true) ⊎ (list_any (λ (p : ℕ × ℕ). is_id i.op i.args p.0 && (p.1 == n)) ps ≡ true) → (is_id i.op i.args p.0 && not (there (need i.op p.0) p.1)) ≡ false
        → (list_any (λ (p : ℕ × ℕ). is_id i.op i.args p.0 && (p.1 == n)) ps ≡ true → (which : Need) × (there which n ≡ true)) → (which : Need) × (there which n ≡ true)
    by_first (inl own) first later =
        let same = same_number p.1 n (and_right (is_id i.op i.args p.0) (p.1 == n) own) in
        let on = not-false (there (need i.op p.0) p.1) (and_off (is_id i.op i.args p.0) (not (there (need i.op p.0) p.1)) first (and_left (is_id i.op i.args p.0) (p.1 == n) own)) in
        (need i.op p.0, subst (λ k. there (need i.op p.0) k ≡ true) same on)
    by_first (inr more) first later = later more

-- an id at a place is an operand
pub operand_at : (ids : ℕ → Bool) (ws : List ℕ) (k j : ℕ) → j < length ws → ids (k + j) ≡ true → has_operand_from ids (slice_index ws j) k ws ≡ true
operand_at ids [] k j less on = absurd (omega (arith, less))
operand_at ids (w ∷ ws) k zero less on = by_first (ids k) (w == w) (subst (λ q. ids q ≡ true) (let same : k + 0 ≡ k = omega arith in same) on) (grind (arith, nat_tests))
  where
    by_first : (a b : Bool) → a ≡ true → b ≡ true → (a && b || has_operand_from ids w (k + 1) ws) ≡ true
    by_first true true e f = refl
    by_first true false e f = cc
    by_first false b e f = cc
operand_at ids (w ∷ ws) k (suc j) less on =
    by_later (ids k && (w == slice_index ws j)) (operand_at ids ws (k + 1) j (let low : j < length ws = omega (arith, less) in low) (subst (λ q. ids q ≡ true) (let same : k + suc j ≡ k + 1 + j = omega arith in same) on))
  where
    by_later : (a : Bool) → has_operand_from ids (slice_index ws j) (k + 1) ws ≡ true → (a || has_operand_from ids (slice_index ws j) (k + 1) ws) ≡ true
    by_later true e = refl
    by_later false e = e

-- these are operands
abbrev pub AllOperands : Inst → List ℕ → Type 0
AllOperands g [] = Unit {0}
AllOperands g (n ∷ ns) = (has_operand g n ≡ true) × AllOperands g ns

by_places : (g : Inst) (ns : List ℕ) → ((j : ℕ) → j < length ns → has_operand g (slice_index ns j) ≡ true) → AllOperands g ns
by_places g [] each = tt
by_places g (n ∷ ns) each = (each 0 (let less : 0 < suc (length ns) = omega arith in less), by_places g ns (λ j less. each (suc j) (let more : suc j < suc (length ns) = omega (arith, less) in more)))

-- those of a composite
pub all_operands : (g : Inst) → ((k : ℕ) → is_id g.op g.args k ≡ true) → AllOperands g g.args
all_operands g ids = by_places g g.args (λ j less. operand_at (is_id g.op g.args) g.args 0 j less (ids (0 + j)))

-- those of the operation of a calculated constant
take_place : (k : ℕ) (ws : List ℕ) (j : ℕ) → j < length (take k ws) → (slice_index (take k ws) j ≡ slice_index ws j) × (j < length ws) × (j < k)
take_place zero ws j less = absurd (omega (arith, less))
take_place (suc k) [] j less = absurd (omega (arith, less))
take_place (suc k) (w ∷ ws) zero less = (refl, (let low : 0 < suc (length ws) = omega arith in low), let low : 0 < suc k = omega arith in low)
take_place (suc k) (w ∷ ws) (suc j) less =
    let rest = take_place k ws j (let low : j < length (take k ws) = omega (arith, less) in low) in
    let a = rest.1 in
    let b = rest.2 in
    (rest.0, (let low : suc j < suc (length ws) = omega (arith, a) in low), let low : suc j < suc k = omega (arith, b) in low)

drop_place : (k : ℕ) (ws : List ℕ) (j : ℕ) → j < length (drop k ws) → (slice_index (drop k ws) j ≡ slice_index ws (k + j)) × (k + j < length ws)
drop_place zero ws j less = (ap (slice_index ws) (let same : j ≡ 0 + j = omega arith in same), let low : 0 + j < length ws = omega (arith, less) in low)
drop_place (suc k) [] j less = absurd (omega (arith, less))
drop_place (suc k) (w ∷ ws) j less =
    let rest = drop_place k ws j less in
    let a = rest.1 in
    (rest.0 ∙ ap (slice_index (w ∷ ws)) (let same : suc (k + j) ≡ suc k + j = omega arith in same), let low : suc k + j < suc (length ws) = omega (arith, a) in low)

calculated_id : (p : Op) (args : List ℕ) (o : Op) (k : ℕ) → is p code.SpecConstantOp ≡ true → inner_of (slice_index args 0) ≡ Some o → is_in_part (operands o) k ≡ true → is_id p args (1 + k) ≡ true
unfolding is_id number
calculated_id code.SpecConstantOp args o k on at part =
    ap (λ q. option_map_or (λ (o : Op). nat_lt 0 (1 + k) && is_in_part (operands o) (1 + k - 1)) q false) at
    ∙ and_from (nat_lt 0 (1 + k)) (is_in_part (operands o) (1 + k - 1)) (grind (arith, nat_tests)) (subst (λ q. is_in_part (operands o) q ≡ true) (let same : k ≡ 1 + k - 1 = omega arith in same) part)
calculated_id p args o k on at part = cc

module _ (g : Inst) (o : Op) (on : is g.op code.SpecConstantOp ≡ true) (at : inner_of (slice_index g.args 0) ≡ Some o) where
  operand_inside : (k : ℕ) → 1 + k < length g.args → is_in_part (operands o) k ≡ true → has_operand g (slice_index g.args (1 + k)) ≡ true
  operand_inside k less part = operand_at (is_id g.op g.args) g.args 0 (1 + k) less (subst (λ q. is_id g.op g.args q ≡ true) (let same : 1 + k ≡ 0 + (1 + k) = omega arith in same) (calculated_id g.op g.args o k on at part))

  pub inner_operands_are : AllOperands g (ids_among (operands o) (drop 1 g.args))
  inner_operands_are = by_part (operands o) refl
    where
      by_part : (q : Operands) → operands o ≡ q → AllOperands g (ids_among q (drop 1 g.args))
      by_part (IdsFirst n) is = by_places g (take n (drop 1 g.args)) (λ j less.
          let a = take_place n (drop 1 g.args) j less in
          let b = drop_place 1 g.args j a.1 in
          let part : is_in_part (operands o) j ≡ true = ap (λ q. is_in_part q j) is ∙ less_is j n a.2 in
          subst (λ q. has_operand g q ≡ true) (sym (a.0 ∙ b.0)) (operand_inside j b.1 part))
      by_part (LiteralsFirst n) is = by_places g (drop n (drop 1 g.args)) (λ j less.
          let a = drop_place n (drop 1 g.args) j less in
          let b = drop_place 1 g.args (n + j) a.1 in
          let part : is_in_part (operands o) (n + j) ≡ true = ap (λ q. is_in_part q (n + j)) is ∙ above j n in
          subst (λ q. has_operand g q ≡ true) (sym (a.0 ∙ b.0)) (operand_inside (n + j) b.1 part))
        where
          above : (j n : ℕ) → nat_le n (n + j) ≡ true
          above j n = grind (arith, nat_tests)
      by_part IdLiteralIds is = tt
      by_part EntryPoint is = tt
      by_part SpecConstantOp is = tt
      by_part Switch is = tt

module _ (m : ModuleState) (entry : Option (List ℕ)) (right : IsConforming m entry) where
  abbrev Gs : List Inst
  Gs = m.globals

  -- an operand of a global stands before it
  pub operand_earlier : (g h : Inst) (n : ℕ) → IsAmong g Gs → has_operand g n ≡ true → global Gs n ≡ Some h → h.at < g.at
  operand_earlier g h n there on at =
      let c = operand_there (is_there Gs g.at) g n (enumerate_from 0 g.args) (or_right (has_type g.op && not (is_there Gs g.at (type_need g.op) g.ty)) (list_any (lacks_operand (is_there Gs g.at) g) (enumerate_from 0 g.args)) (global_there m entry right g there)) on in
      let d = some_by (suits c.0) (earlier Gs g.at n) c.1 in
      let w = earlier_some Gs g.at n d.0 d.1 in
      subst (λ (x : Inst). x.at < g.at) (same_Some d.0 h (sym w.0 ∙ at)) w.1

  module _ (s : Source) where
    -- who has no operand with this id needs it no more
    needed_same : (needed : ℕ → Bool) (x : Inst) (n : ℕ) → has_operand x n ≡ false → needed_with s needed x n ≡ needed n
    needed_same needed x n off = by_test (needed n) (declares s needed x) (has_operand x n) off
      where
        by_test : (a b c : Bool) → c ≡ false → elim a as (λ q. Bool) [ true ↦ true | false ↦ b && c ] ≡ a
        by_test true b c off = refl
        by_test false true c off = off
        by_test false false c off = refl

    -- what stands before a global, or is it, has it not as an operand
    no_operand : (x g : Inst) → IsAmong x Gs → IsAmong g Gs → x.at ≤ g.at → has_operand x g.result ≡ false
    no_operand x g x_in g_in le = false_from_ne_true (has_operand x g.result) (λ on. let less = operand_earlier x g g.result x_in on (global_found m entry right g g_in) in omega (arith, less, le))

    declared_same : (needed : ℕ → Bool) (x g : Inst) → IsAmong x Gs → IsAmong g Gs → x.at ≤ g.at → declares s (needed_with s needed x) g ≡ declares s needed g
    declared_same needed x g x_in g_in le = ap (λ b. is_constant g && (is_named (reading s g) && (is_some (free_spec_id s g.result) || b))) (needed_same needed x g.result (no_operand x g x_in g_in le))

    pub operand_needed : (first : ℕ → Bool) (gs : List Inst) (k : ℕ) → AreRising k gs → ((x : Inst) → IsAmong x gs → IsAmong x Gs) → (g : Inst) → IsAmong g gs → (n : ℕ) → declares s (needed_from s first gs) g ≡ true → has_operand g n ≡ true → needed_from s first gs n ≡ true
    operand_needed first [] k rise all g there n declared on = absurd there
    operand_needed first (x ∷ xs) k rise all g (inl same) n declared on =
        let own : declares s (needed_from s first xs) g ≡ true = sym (declared_same (needed_from s first xs) x g (all x (inl refl)) (subst (λ (y : Inst). IsAmong y Gs) same (all x (inl refl))) (subst (λ (y : Inst). x.at ≤ y.at) same (let low : x.at ≤ x.at = omega arith in low))) ∙ declared in
        by_test (needed_from s first xs n) (declares s (needed_from s first xs) x && has_operand x n) (and_from (declares s (needed_from s first xs) x) (has_operand x n) (subst (λ (y : Inst). declares s (needed_from s first xs) y ≡ true) (sym same) own) (subst (λ (y : Inst). has_operand y n ≡ true) (sym same) on))
      where
        by_test : (a b : Bool) → b ≡ true → elim a as (λ q. Bool) [ true ↦ true | false ↦ b ] ≡ true
        by_test true b on = refl
        by_test false b on = on
    operand_needed first (x ∷ xs) k rise all g (inr there) n declared on =
        let far = rising_low (x.at + 1) xs g rise.1 there in
        let le : x.at ≤ g.at = omega (arith, far) in
        let own : declares s (needed_from s first xs) g ≡ true = sym (declared_same (needed_from s first xs) x g (all x (inl refl)) (all g (inr there)) le) ∙ declared in
        by_test (needed_from s first xs n) (operand_needed first xs (x.at + 1) rise.1 (λ y y_in. all y (inr y_in)) g there n own on)
      where
        by_test : (a : Bool) → a ≡ true → elim a as (λ q. Bool) [ true ↦ true | false ↦ declares s (needed_from s first xs) x && has_operand x n ] ≡ true
        by_test true e = refl
        by_test false e = cc
