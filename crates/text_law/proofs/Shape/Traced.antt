-- The path of a pointer begins at what no chain makes, and its indexes are those of chains of the function.
use Rattle.std.proofs.Common.{◌≡◌, ◌<◌, ◌+◌, ◌==◌, ◌||◌, ◌++◌, ℕ, zero, suc, Bool, true, false, List, [], ◌∷◌, Option, Some, None, inl, inr, refl, sym, ap, subst, arith, if◌then◌else◌}
use Rattle.std.specs.Prelude.{option_and_then}
use Rattle.std.specs.Option.{option_map_or}
use Rattle.spv_ops.specs.Groups.{is_chain}
use Rattle.spv_module.specs.Lists.{id}
use Rattle.spv_module.specs.declared.inst.Inst.{Inst}
use Rattle.spv_module.specs.declared.inst.Function.{Function}
use Rattle.spv_index.specs.Locals.{insts_of}
use Rattle.profile_rules.specs.MemoryRules.{pointee_of, step_type}
use Rattle.access_paths.specs.declared.forms.Step.{Step}
use Rattle.access_paths.specs.declared.forms.Step.TheVariants as way
use Rattle.access_paths.specs.Ways.{Way, Spot, is_constant_index, base, indexes, member, step, steps_from, spot_of, chain_steps, path}
use Rattle.name_alloc.specs.declared.claims.Key.TheVariants.{Captured}
use Rattle.spv_module.specs.declared.inst.Id.{Id}
use Rattle.glsl_ast.specs.Tree.{LStep}
use Rattle.vec_lowering.specs.Component.{axis_name}
use Rattle.std.specs.Prelude.{nat_lt}
use Rattle.expr_forward.specs.Scope.{Setting}
use Rattle.expr_forward.specs.Paths.{index_expr, word_at, vector_size, index_by, steps_text}
use Rattle.expr_forward.specs.Paths as paths
use Rattle.claim_law.specs.Uses.{UsesExpr, UseSteps}
use Rattle.global_law.specs.Chains.{NoneMakes, ChainsRise}
use Rattle.global_law.proofs.Path.Ways.{start_way, chain_way}
use Rattle.global_law.proofs.Path.Based.{rank, base_lower}
use Rattle.claim_law.specs.Claimed.{IsIn}
use Rattle.claim_law.specs.Told.{is_among}
use Rattle.grammar_law.proofs.Unit.Lists.{in_block, as_among}
use Rattle.grammar_law.proofs.Unit.Places.{makes_in}
use Rattle.text_law.specs.Walks.{Outer}
use Rattle.text_law.specs.Unseen.{unseen}

module _ (gs : List Inst) (f : Function) where
  -- an index of a chain of the function
  pub record IsIndex (n : ℕ) : Type 0 where
    pub chain : Inst
    pub there : IsIn chain (insts_of f)
    pub on : is_chain chain.op ≡ true
    pub among : IsIn n (indexes chain)

  abbrev pub AreIndexes : List Step → Type 0
  AreIndexes [] = Unit {0}
  AreIndexes (way.Member k ∷ ss) = AreIndexes ss
  AreIndexes (way.Index n ∷ ss) = IsIndex n.0 × AreIndexes ss
  AreIndexes (way.Captured chain k ∷ ss) = AreIndexes ss

  both-indexes : (xs ys : List Step) → AreIndexes xs → AreIndexes ys → AreIndexes (xs ++ ys)
  both-indexes [] ys p q = q
  both-indexes (way.Member k ∷ xs) ys p q = both-indexes xs ys p q
  both-indexes (way.Index n ∷ xs) ys p q = (p.0, both-indexes xs ys p.1 q)
  both-indexes (way.Captured chain k ∷ xs) ys p q = both-indexes xs ys p q

  step-index : (spot : Spot) (k n : ℕ) (ty : Option ℕ) (rest : List Step) → IsIndex n → AreIndexes rest → AreIndexes (step gs spot k n ty ∷ rest)
  step-index spot k n ty rest is later = by_member (option_and_then (member gs n) ty) (is_constant_index gs n || (spot.stands == spot.printed))
    where
      by_member : (x : Option ℕ) (b : Bool) → AreIndexes (option_map_or way.Member x (if b then way.Index (id n) else way.Captured (id spot.chain) k) ∷ rest)
      by_member (Some m) b = later
      by_member None true = (is, later)
      by_member None false = later

  steps-indexes : (spot : Spot) (k : ℕ) (ty : Option ℕ) (ns : List ℕ) → ((n : ℕ) → IsIn n ns → IsIndex n) → AreIndexes (steps_from gs spot k ty ns)
  steps-indexes spot k ty [] each = tt
  steps-indexes spot k ty (n ∷ ns) each =
      step-index spot k n ty (steps_from gs spot (k + 1) (option_and_then (step_type gs n) ty) ns) (each n (inl refl)) (steps-indexes spot (k + 1) (option_and_then (step_type gs n) ty) ns (λ m m_in. each m (inr m_in)))

  abbrev pub IsPointer : ℕ → Type 0
  IsPointer n = (q : ℕ) × (pointee_of gs f n ≡ Some q)

  -- what the path of an id is: it begins at a pointer, where the id is one
  abbrev pub IsTraced : ℕ → Way → Type 0
  IsTraced n w = NoneMakes w.base (insts_of f) × AreIndexes w.steps × (IsPointer n → IsPointer w.base)

  module _ (rise : ChainsRise (insts_of f)) (based : (j : Inst) → IsIn j (insts_of f) → is_chain j.op ≡ true → IsPointer (base j)) (printed : ℕ) where
    traced-below : (k n : ℕ) → rank f n < k → IsTraced n (path gs f printed n)
    traced-below zero n less = absurd (omega (arith, less))
    traced-below (suc k) n less = elim (makes_in n (insts_of f)) [
      | inl w ↦ subst (λ (m : ℕ). IsTraced m (path gs f printed m)) w.1.2 (by_chain w.0 w.1.0 w.1.1 (traced-below k (base w.0) (lower w.0 w.1.0 w.1.1 w.1.2)))
      | inr none ↦ subst (IsTraced n) (sym (start_way gs f printed n none)) (none, tt, λ is. is)
    ]
      where
        lower : (j : Inst) → IsIn j (insts_of f) → is_chain j.op ≡ true → j.result ≡ n → rank f (base j) < k
        lower j j_in on same =
            let low = base_lower f j rise (as_among (insts_of f) j j_in) on in
            let one = ap (rank f) same in
            omega (arith, low, one, less)

        by_chain : (j : Inst) → IsIn j (insts_of f) → is_chain j.op ≡ true → IsTraced (base j) (path gs f printed (base j)) → IsTraced j.result (path gs f printed j.result)
        by_chain j j_in on below =
            let at = in_block f.blocks j j_in in
            subst (IsTraced j.result) (sym (chain_way gs f printed at.0 at.1 j rise at.2 (as_among at.1.insts j at.3) on)) (
              below.0,
              both-indexes (path gs f printed (base j)).steps (chain_steps gs f (spot_of printed (at.0, j)) j) below.1
                  (steps-indexes (spot_of printed (at.0, j)) 0 (pointee_of gs f (base j)) (indexes j) (λ m m_in. record { chain = j; there = j_in; on = on; among = m_in })),
              λ is. below.2 (based j j_in on),
            )

    -- The law.
    pub traced : (n : ℕ) → IsTraced n (path gs f printed n)
    traced n = traced-below (suc (rank f n)) n (let less : rank f n < suc (rank f n) = omega arith in less)

-- As it is written it does nothing that is seen, where indexes do nothing.
module _ (o : Outer) (gs : List Inst) (f : Function) (w : Setting) (index : (n : ℕ) → IsIndex gs f n → UsesExpr (unseen o) (index_expr w n)) (kept : (chain : Id) (k : ℕ) → is_among o.memory (w.key (Captured chain k)) ≡ false) where
  index-unseen : (size n : ℕ) (x : Option ℕ) (rest : List LStep) → UsesExpr (unseen o) (index_expr w n) → UseSteps (unseen o) rest → UseSteps (unseen o) (index_by w size n x ∷ rest)
  index-unseen size n None rest is later = (is, later)
  index-unseen size n (Some k) rest is later = by_test (nat_lt k size)
    where
      by_test : (b : Bool) → UseSteps (unseen o) ((if b then LStep.member (axis_name k) else LStep.index (index_expr w n)) ∷ rest)
      by_test true = (tt, later)
      by_test false = (is, later)

  pub steps-unseen : (ty : ℕ) (ss : List Step) → AreIndexes gs f ss → UseSteps (unseen o) (steps_text w ty ss)
  steps-unseen ty [] are = tt
  steps-unseen ty (way.Member k ∷ ss) are = (tt, steps-unseen (paths.step_type w ty (way.Member k)) ss are)
  steps-unseen ty (way.Index n ∷ ss) are = index-unseen (vector_size w ty) n.0 (word_at w n.0) (steps_text w (paths.step_type w ty (way.Index n)) ss) (index n.0 are.0) (steps-unseen (paths.step_type w ty (way.Index n)) ss are.1)
  steps-unseen ty (way.Captured chain k ∷ ss) are = (kept chain k, steps-unseen (paths.step_type w ty (way.Captured chain k)) ss are)
