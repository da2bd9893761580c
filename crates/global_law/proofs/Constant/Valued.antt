-- The value of a constant is made of those of constants that stand before it.
use Rattle.std.proofs.Common.{◌≡◌, ◌<◌, ◌≤◌, ◌+◌, ◌==◌, ℕ, Bool, true, false, List, [], ◌∷◌, Option, Some, None, inl, inr, refl, sym, ap, subst, ◌∙◌, if◌then◌else◌, arith}
use Rattle.std.specs.Prelude.{◌⊎◌, fold, option_and_then}
use Rattle.std.specs.Option.{option_or}
use Rattle.std.proofs.lemmas.Bool.Decides.{eqb_tells}
use Rattle.std.proofs.lemmas.Option.{same_Some}
use Rattle.spv_module.specs.Held.{global}
use Rattle.spv_module.specs.declared.inst.Inst.{Inst}
use Rattle.spv_types.specs.Tree.{Tree, ValueTree}
use Rattle.spv_types.specs.Types.{type_tree}
use Rattle.op_semantics.specs.Component.{each_one}
use Rattle.op_semantics.specs.Fits.{fits}
use Rattle.profile_rules.specs.TypeRules.{is_sound}
use Rattle.profile_rules.specs.Constants.{constant_kind, value_by_kind, if_fits, shaped_value, value_step, with_value}
use Rattle.module_semantics.specs.Setting.{Setting}
use Rattle.list_law.proofs.Options.{none_some}
use Rattle.plan_law.specs.InOrder.{AreRising, HaveNot}
use Rattle.fits_law.proofs.Operations.{before_some}
use Rattle.type_law.specs.Shaped.{EachFound, HaveResults, HasConstants}
use Rattle.type_law.proofs.Constants.{by_fits}
use Rattle.typed_law.proofs.Lists.{some_part}

module _ (gs : List Inst) (step : (ℕ → Option ValueTree) → Inst → Option ValueTree) where
  -- what has a value keeps it, where no later instruction has its id
  keep : (rest : List Inst) (f : ℕ → Option ValueTree) (n : ℕ) (u : ValueTree) → f n ≡ Some u → HaveNot n rest → fold (with_value step) f rest n ≡ Some u
  keep [] f n u e far = e
  keep (g ∷ rest) f n u e far = keep rest (with_value step f g) n u (by_test (g.result == n) (eqb_tells g.result n)) far.1
    where
      by_test : (b : Bool) → ((b ≡ true) × (g.result ≡ n)) ⊎ ((b ≡ false) × (g.result ≡ n → ⊥)) → elim b [ true ↦ option_or (step f g) (f n) | false ↦ f n ] ≡ Some u
      by_test b (inl w) = absurd (far.0 w.1)
      by_test true (inr w) = cc
      by_test false (inr w) = e

  far_off : (rest : List Inst) (k n : ℕ) (h : Inst) → AreRising k rest → EachFound gs rest → global gs n ≡ Some h → h.at < k → HaveNot n rest
  far_off [] k n h rise each there less = tt
  far_off (g ∷ rest) k n h rise each there less =
      let first = rise.0 in (
        λ same.
            let one : g ≡ h = same_Some g h (sym each.0 ∙ (ap (global gs) same ∙ there)) in
            let at : g.at ≡ h.at = ap (λ (x : Inst). x.at) one in
            omega (arith, less, first, at),
        far_off rest (g.at + 1) n h rise.1 each.1 there (let low : h.at < g.at + 1 = omega (arith, less, first) in low),
      )

  -- what has a value so far stands before this word
  abbrev Known : ℕ → (ℕ → Option ValueTree) → Type 0
  Known k f = (n : ℕ) (u : ValueTree) → f n ≡ Some u → (h : Inst) × (global gs n ≡ Some h) × (h.at < k)

  with_known : (f : ℕ → Option ValueTree) (g : Inst) (k : ℕ) → Known k f → k ≤ g.at → global gs g.result ≡ Some g → Known (g.at + 1) (with_value step f g)
  with_known f g k known le there n u e = by_test (g.result == n) (eqb_tells g.result n) e
    where
      old : f n ≡ Some u → (h : Inst) × (global gs n ≡ Some h) × (h.at < g.at + 1)
      old has = let w = known n u has in let less = w.2 in (w.0, w.1, let low : w.0.at < g.at + 1 = omega (arith, less, le) in low)

      by_test : (b : Bool) → ((b ≡ true) × (g.result ≡ n)) ⊎ ((b ≡ false) × (g.result ≡ n → ⊥)) → elim b [ true ↦ option_or (step f g) (f n) | false ↦ f n ] ≡ Some u → (h : Inst) × (global gs n ≡ Some h) × (h.at < g.at + 1)
      by_test b (inl w) e = (g, subst (λ m. global gs m ≡ Some g) w.1 there, let low : g.at < g.at + 1 = omega arith in low)
      by_test true (inr w) e = cc
      by_test false (inr w) e = old e

  -- what a value is made of
  record Made (final : ℕ → Option ValueTree) (n : ℕ) (v : ValueTree) : Type 0 where
    inst : Inst
    from : ℕ → Option ValueTree
    there : global gs n ≡ Some inst
    gives : step from inst ≡ Some v
    last : (k : ℕ) (u : ValueTree) → from k ≡ Some u → final k ≡ Some u
    earlier : (k : ℕ) (u : ValueTree) → from k ≡ Some u → (h : Inst) × (global gs k ≡ Some h) × (h.at < inst.at)

  made_at : (rest : List Inst) (k : ℕ) (f : ℕ → Option ValueTree) → AreRising k rest → EachFound gs rest → Known k f → (n : ℕ) (v : ValueTree) → fold (with_value step) f rest n ≡ Some v → (f n ≡ Some v) ⊎ Made (fold (with_value step) f rest) n v
  made_at [] k f rise each known n v e = inl e
  made_at (g ∷ rest) k f rise each known n v e = by_later (made_at rest (g.at + 1) (with_value step f g) rise.1 each.1 (with_known f g k known rise.0 each.0) n v e)
    where
      by_step : (o : Option ValueTree) → step f g ≡ o → g.result ≡ n → option_or o (f n) ≡ Some v → (f n ≡ Some v) ⊎ Made (fold (with_value step) f (g ∷ rest)) n v
      by_step None at same e = inl e
      by_step (Some w) at same e =
          let first = rise.0 in
          inr (record {
            inst = g;
            from = f;
            there = subst (λ m. global gs m ≡ Some g) same each.0;
            gives = at ∙ e;
            last = λ j u has. let w = known j u has in keep (g ∷ rest) f j u has (far_off (g ∷ rest) k j w.0 rise each w.1 w.2);
            earlier = λ j u has. let w = known j u has in let less = w.2 in (w.0, w.1, let low : w.0.at < g.at = omega (arith, less, first) in low);
          })

      by_test : (b : Bool) → ((b ≡ true) × (g.result ≡ n)) ⊎ ((b ≡ false) × (g.result ≡ n → ⊥)) → elim b [ true ↦ option_or (step f g) (f n) | false ↦ f n ] ≡ Some v → (f n ≡ Some v) ⊎ Made (fold (with_value step) f (g ∷ rest)) n v
      by_test true (inl w) e = by_step (step f g) refl w.1 e
      by_test true (inr w) e = cc
      by_test false w e = inl e

      by_later : (with_value step f g n ≡ Some v) ⊎ Made (fold (with_value step) (with_value step f g) rest) n v → (f n ≡ Some v) ⊎ Made (fold (with_value step) f (g ∷ rest)) n v
      by_later (inl own) = by_test (g.result == n) (eqb_tells g.result n) own
      by_later (inr w) = inr w

module _ (s : Setting) (chosen : ℕ → Option ℕ) (have : HasConstants s chosen) (results : HaveResults s.of.globals) (rising : AreRising 0 s.of.globals) where
  abbrev Gs : List Inst
  Gs = s.of.globals

  -- A constant with a value: its instruction, which breaks no rule on types, its shape, and the values before it of which its own is made.
  pub record IsValued (n : ℕ) (v : ValueTree) : Type 0 where
    pub inst : Inst
    pub there : global Gs n ≡ Some inst
    pub shape : Tree
    pub typed_as : type_tree Gs inst.ty ≡ Some shape
    pub fit : fits shape v ≡ true
    pub sound : is_sound s.of inst ≡ true
    pub from : ℕ → Option ValueTree
    pub made : value_by_kind from (chosen inst.result) shape inst.args (constant_kind inst.op) ≡ Some v
    pub last : (k : ℕ) (u : ValueTree) → from k ≡ Some u → s.constants k ≡ Some u
    pub earlier : (k : ℕ) (u : ValueTree) → from k ≡ Some u → (h : Inst) × (global Gs k ≡ Some h) × (h.at < inst.at)

  pub valued : (n : ℕ) (v : ValueTree) → s.constants n ≡ Some v → IsValued n v
  valued n v e = by_made (made_at Gs (value_step s.of chosen) Gs 0 (λ id. None) rising results.each (λ k u e. none_some e) n v (sym (have n) ∙ e))
    where
      by_sound : (w : Made Gs (value_step s.of chosen) (fold (with_value (value_step s.of chosen)) (λ id. None) Gs) n v) (b : Bool) → is_sound s.of w.inst ≡ b → (if b then option_and_then (shaped_value w.from (chosen w.inst.result) w.inst) (type_tree Gs w.inst.ty) else None) ≡ Some v → IsValued n v
      by_sound w true sound e =
          let t = some_part (shaped_value w.from (chosen w.inst.result) w.inst) (type_tree Gs w.inst.ty) v e in
          let u = some_part (if_fits t.0) (value_by_kind w.from (chosen w.inst.result) t.0 w.inst.args (constant_kind w.inst.op)) v t.2 in
          let fit = by_fits t.0 u.0 v (fits t.0 u.0) refl u.2 in
          record {
            inst = w.inst;
            there = w.there;
            shape = t.0;
            typed_as = t.1;
            fit = fit.1;
            sound = sound;
            from = w.from;
            made = u.1 ∙ ap (λ x. Some x) fit.0;
            last = λ k u has. have k ∙ w.last k u has;
            earlier = w.earlier;
          }
      by_sound w false sound e = none_some e

      by_made : (None ≡ Some v) ⊎ Made Gs (value_step s.of chosen) (fold (with_value (value_step s.of chosen)) (λ id. None) Gs) n v → IsValued n v
      by_made (inl none) = none_some none
      by_made (inr w) = by_sound w (is_sound s.of w.inst) refl w.gives

  -- an operand of a constant at a word: a constant before it, with its value
  pub record IsOperand (at n : ℕ) (t : Tree) (v : ValueTree) : Type 0 where
    pub inst : Inst
    pub there : global Gs n ≡ Some inst
    pub typed_as : type_tree Gs inst.ty ≡ Some t
    pub has : s.constants n ≡ Some v
    pub fit : fits t v ≡ true
    pub less : inst.at < at

  abbrev pub AreOperands : ℕ → List ℕ → List Tree → List ValueTree → Type 0
  AreOperands at [] [] [] = Unit {0}
  AreOperands at (n ∷ ns) (t ∷ ts) (v ∷ vs) = IsOperand at n t v × AreOperands at ns ts vs
  AreOperands at _ _ _ = ⊥

  pub operands : (at : ℕ) (f : ℕ → Option ValueTree) → ((k : ℕ) (u : ValueTree) → f k ≡ Some u → s.constants k ≡ Some u) → ((k : ℕ) (u : ValueTree) → f k ≡ Some u → (h : Inst) × (global Gs k ≡ Some h) × (h.at < at))
      → (ns : List ℕ) (vs : List ValueTree) → each_one f ns ≡ Some vs → (ts : List Tree) × AreOperands at ns ts vs
  operands at f last earlier [] vs e = ([], subst (AreOperands at [] []) (same_Some [] vs e) tt)
  operands at f last earlier (n ∷ ns) vs e =
      let b = before_some (f n) (each_one f ns) vs e in
      let rest = operands at f last earlier ns b.1 b.3 in
      let has = last n b.0 b.2 in
      let c = valued n b.0 has in
      let w = earlier n b.0 b.2 in
      let less : c.inst.at < at = subst (λ (x : Inst). x.at < at) (same_Some w.0 c.inst (sym w.1 ∙ c.there)) w.2 in
      let own : IsOperand at n c.shape b.0 = record { inst = c.inst; there = c.there; typed_as = c.typed_as; has = has; fit = c.fit; less = less } in
      (c.shape ∷ rest.0, subst (AreOperands at (n ∷ ns) (c.shape ∷ rest.0)) (sym b.4) (own, rest.1))
