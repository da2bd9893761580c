-- Groups that stand in the order of their targets are written as they stand.
use Rattle.std.proofs.Common.{◌≡◌, ◌≢◌, ◌<◌, ◌≤◌, ◌==◌, ◌&&◌, ℕ, true, false, cond, List, [], ◌∷◌, ◌++◌, map, refl, ap, sym, ◌∙◌, arith, inl, inr}
use Rattle.std.specs.Prelude.{nat_eq, Option, Some, None}
use Rattle.std.specs.Option.{option_to_list}
use Rattle.std.specs.Map.{update, update_all}
use Rattle.std.proofs.lemmas.Bool.Decides.{eqb_tells}
use Rattle.std.proofs.lemmas.Bool.{and_parts}
use Rattle.list_law.proofs.Numbers.{less_of, same_number, number_same}
use Rattle.glsl_ast.specs.Tree as text
use Rattle.glsl_ast.specs.View.{arm_of}
use Rattle.glsl_ast.specs.declared.statements.Arm.{Arm}
use Rattle.control_text.specs.Statements.{in_order, by_target}
use Rattle.control_text.specs.Written.{group_written}
use Rattle.control_text.specs.Rising.{target_of, is_behind, stand_so}

apart : (a b : ℕ) → a ≢ b → nat_eq a b ≡ false
apart a b ne = elim (eqb_tells a b) [ inl w ↦ absurd (ne w.1) | inr w ↦ w.0 ]

-- where a group has a greater target than another, the other does not matter
past : (gs : List (ℕ × text.Arm)) (f : ℕ → Option text.Arm) (before : Option ℕ) (ts : List ℕ) (p q : ℕ) → before ≡ Some p → q ≤ p → stand_so before ts (map (λ (g : ℕ × text.Arm). g.0) gs) ≡ true → update_all nat_eq f gs q ≡ f q
past [] f before ts p q is le so = refl
past (g ∷ gs) f before [] p q is le so = cc
past (g ∷ gs) f before (t ∷ ts) p q is le so =
    let one = and_parts (g.0 == t) (is_behind before t && stand_so (Some t) ts (map (λ (g : ℕ × text.Arm). g.0) gs)) so in
    let two = and_parts (is_behind before t) (stand_so (Some t) ts (map (λ (g : ℕ × text.Arm). g.0) gs)) one.1 in
    let up : p < t = less_of p t (sym (ap (λ b. is_behind b t) is) ∙ two.0) in
    let key : g.0 ≡ t = same_number g.0 t one.0 in
    past gs (update nat_eq f g.0 (Some g.1)) (Some t) ts t q refl (omega (arith, le, up)) two.1 ∙ ap (λ b. cond b (Some g.1) (f q)) (apart g.0 q (λ e. omega (arith, e, key, le, up)))

agree : (gs : List (ℕ × text.Arm)) (f h : ℕ → Option text.Arm) (q : ℕ) → f q ≡ h q → update_all nat_eq f gs q ≡ update_all nat_eq h gs q
agree [] f h q e = e
agree (g ∷ gs) f h q e = agree gs (update nat_eq f g.0 (Some g.1)) (update nat_eq h g.0 (Some g.1)) q (ap (λ x. cond (nat_eq g.0 q) (Some g.1) x) e)

written : (gs : List (ℕ × text.Arm)) (f : ℕ → Option text.Arm) (before : Option ℕ) (ts : List ℕ) → stand_so before ts (map (λ (g : ℕ × text.Arm). g.0) gs) ≡ true → in_order ts (update_all nat_eq f gs) ≡ map (λ (g : ℕ × text.Arm). g.1) gs
written [] f before [] so = refl
written [] f before (t ∷ ts) so = cc
written (g ∷ gs) f before [] so = cc
written (g ∷ gs) f before (t ∷ ts) so =
    let one = and_parts (g.0 == t) (is_behind before t && stand_so (Some t) ts (map (λ (g : ℕ × text.Arm). g.0) gs)) so in
    let rest = (and_parts (is_behind before t) (stand_so (Some t) ts (map (λ (g : ℕ × text.Arm). g.0) gs)) one.1).1 in
    let key : g.0 ≡ t = same_number g.0 t one.0 in
    let first : update_all nat_eq (update nat_eq f g.0 (Some g.1)) gs t ≡ Some g.1 = past gs (update nat_eq f g.0 (Some g.1)) (Some t) ts t t refl (omega arith) rest ∙ ap (λ b. cond b (Some g.1) (f t)) (number_same g.0 t key) in
    ap (λ o. option_to_list o ++ in_order ts (update nat_eq (update_all nat_eq (update nat_eq f g.0 (Some g.1)) gs) t None)) first
    ∙ (ap (λ h. g.1 ∷ in_order ts h) (λ i q. left gs f g t ts key rest q i)
    ∙ ap (λ xs. g.1 ∷ xs) (written gs (update nat_eq f t None) (Some t) ts rest))
  where
    left : (gs : List (ℕ × text.Arm)) (f : ℕ → Option text.Arm) (g : ℕ × text.Arm) (t : ℕ) (ts : List ℕ) → g.0 ≡ t → stand_so (Some t) ts (map (λ (g : ℕ × text.Arm). g.0) gs) ≡ true → (q : ℕ)
        → update nat_eq (update_all nat_eq (update nat_eq f g.0 (Some g.1)) gs) t None q ≡ update_all nat_eq (update nat_eq f t None) gs q
    left gs f g t ts key rest q = elim (eqb_tells t q) [
      | inl w ↦
          ap (λ b. cond b None (update_all nat_eq (update nat_eq f g.0 (Some g.1)) gs q)) w.0
          ∙ sym (past gs (update nat_eq f t None) (Some t) ts t q refl (let e : t ≡ q = w.1 in omega (arith, e)) rest ∙ ap (λ b. cond b None (f q)) w.0)
      | inr w ↦
          ap (λ b. cond b None (update_all nat_eq (update nat_eq f g.0 (Some g.1)) gs q)) w.0
          ∙ agree gs (update nat_eq f g.0 (Some g.1)) (update nat_eq f t None) q (ap (λ b. cond b (Some g.1) (f q)) (apart g.0 q (λ e. w.1 (sym key ∙ e))) ∙ sym (ap (λ b. cond b None (f q)) w.0))
    ]

keys_are : (gs : List (ℕ × Arm)) → map (λ (g : ℕ × text.Arm). g.0) (map group_written gs) ≡ map target_of gs
keys_are [] = refl
keys_are (g ∷ gs) = ap (λ ks. g.0 ∷ ks) (keys_are gs)

arms_are : (gs : List (ℕ × Arm)) → map (λ (g : ℕ × text.Arm). g.1) (map group_written gs) ≡ map arm_of (map (λ (g : ℕ × Arm). g.1) gs)
arms_are [] = refl
arms_are (g ∷ gs) = ap (λ ks. arm_of g.1 ∷ ks) (arms_are gs)

-- groups that stand in the order are written as they stand
pub stands : (order : List ℕ) (gs : List (ℕ × Arm)) (arms : List Arm) → stand_so None order (map target_of gs) ≡ true → arms ≡ map (λ (g : ℕ × Arm). g.1) gs → map arm_of arms ≡ in_order order (by_target (map group_written gs))
stands order gs arms so is = ap (map arm_of) is ∙ (sym (arms_are gs) ∙ sym (written (map group_written gs) (λ t. None) None order (ap (stand_so None order) (keys_are gs) ∙ so)))
