-- The base of a chain that is carried is carried.
use Rattle.std.proofs.Common.{◌≡◌, ◌==◌, ◌&&◌, ◌||◌, ◌++◌, ℕ, Bool, true, false, List, [], ◌∷◌, append_assoc, Option, Some, inl, inr, refl, sym, ap, ◌∙◌, subst}
use Rattle.std.specs.Prelude.{◌⊎◌, IfSome}
use Rattle.std.specs.Option.{option_map_or}
use Rattle.std.specs.List.{list_any}
use Rattle.std.proofs.lemmas.Bool.{and_from, or_right, and_parts, or_cases}
use Rattle.spv_ops.specs.Opcode.{is}
use Rattle.spv_ops.specs.Groups.{is_chain}
use Rattle.spv_ops.specs.declared.Op.TheVariants as code
use Rattle.spv_module.specs.declared.inst.Inst.{Inst}
use Rattle.spv_module.specs.declared.inst.Function.{Function}
use Rattle.use_chains.specs.declared.slot.SlotPlace.{SlotPlace}
use Rattle.hoist_plan.specs.Plan.{Placed, user, is_elsewhere_by, carries_by, carries, is_carried_with, carried_from}
use Rattle.list_law.proofs.Numbers.{same_number}
use Rattle.plan_law.specs.Ordered.{NoOperand, NoneMentioned, AreOrdered}
use Rattle.claim_law.specs.Claimed.{IsIn}
use Rattle.claim_law.proofs.Claim.Listed.{any_in}
use Rattle.grammar_law.proofs.Unit.Lists.{split_at}
use Rattle.grammar_law.proofs.Unit.Carried.{carried_on, own_carried}

pub none_at : (f : Function) (n : ℕ) (places : List SlotPlace) (at : SlotPlace) (i : Inst) → NoOperand f n places → IsIn at places → user f at ≡ Some i → i.result ≡ n → ⊥
none_at f n [] at i none among there = absurd among
none_at f n (x ∷ xs) at i none (inl same) there = subst (λ (q : Option Inst). IfSome q (λ (j : Inst). j.result ≡ n → ⊥)) (ap (user f) same ∙ there) none.0
none_at f n (x ∷ xs) at i none (inr among) there = none_at f n xs at i none.1 among there

pub none_of : (f : Function) (n : ℕ) (ps : List Placed) (p : Placed) → NoneMentioned f n ps → IsIn p ps → NoOperand f n p.mentions
none_of f n [] p none among = absurd among
none_of f n (x ∷ xs) p none (inl same) = subst (λ (q : Placed). NoOperand f n q.mentions) same none.0
none_of f n (x ∷ xs) p none (inr among) = none_of f n xs p none.1 among

of_either : (front back : List Placed) (p : Placed) → IsIn p (front ++ back) → IsIn p front ⊎ IsIn p back
of_either [] back p among = inr among
of_either (x ∷ xs) back p (inl same) = inl (inl same)
of_either (x ∷ xs) back p (inr among) = elim (of_either xs back p among) [ inl here ↦ inl (inr here) | inr later ↦ inr later ]

module _ (f : Function) where
  -- what is carried is carried from its own chain on
  pub record IsCarriedAt (ps : List Placed) (n : ℕ) : Type 0 where
    pub front : List Placed
    pub back : List Placed
    pub by : Placed
    pub whole : ps ≡ front ++ by ∷ back
    pub result : by.result ≡ n
    pub chain : is_chain by.op ≡ true
    pub carried : carried_from f (by ∷ back) n ≡ true

  pub carried_at : (ps : List Placed) (n : ℕ) → carried_from f ps n ≡ true → IsCarriedAt ps n
  carried_at [] n on = cc
  carried_at (p ∷ ps) n on = by_test (is_carried_with f (carried_from f ps) p) refl on (carried_at ps n)
    where
      more : IsCarriedAt ps n → IsCarriedAt (p ∷ ps) n
      more w = record { front = p ∷ w.front; back = w.back; by = w.by; whole = ap (λ l. p ∷ l) w.whole; result = w.result; chain = w.chain; carried = w.carried }

      by_test : (b : Bool) → is_carried_with f (carried_from f ps) p ≡ b → elim b as (λ b. Bool) [ true ↦ carried_from f ps n || (n == p.result) | false ↦ carried_from f ps n ] ≡ true → (carried_from f ps n ≡ true → IsCarriedAt ps n) → IsCarriedAt (p ∷ ps) n
      by_test false is_it told later = more (later told)
      by_test true is_it told later = elim (or_cases (carried_from f ps n) (n == p.result) told) [
        | inl there ↦ more (later there)
        | inr same ↦ record {
          front = [];
          back = ps;
          by = p;
          whole = refl;
          result = sym (same_number n p.result same);
          chain = (and_parts (is_chain p.op) (carried_from f ps p.result || list_any (carries f (carried_from f ps) p.block) p.mentions) is_it).0;
          carried = on;
        }
      ]

  -- so is its base, where its mention is linked
  module _ (ps : List Placed) (ordered : AreOrdered f ps) (p : Placed) (at : SlotPlace) (i : Inst) (among : IsIn p ps) (is_it : is_chain p.op ≡ true) (mentioned : IsIn at p.mentions) (there : user f at ≡ Some i) (first : (at.arg == 0) ≡ true) (chain : is_chain i.op ≡ true) where
    at_front : (w : IsCarriedAt ps i.result) → is w.by.op code.Phi ≡ false → IsIn p w.front
    at_front w no_phi = elim (of_either w.front (w.by ∷ w.back) p (subst (IsIn p) w.whole among)) [
      | inl here ↦ here
      | inr later ↦ absurd (none_at f w.by.result p.mentions at i (none_of f w.by.result (w.by ∷ w.back) p (ordered.before w.front w.back w.by w.whole no_phi) later) mentioned there (sym w.result))
    ]

    pub base_carried : (w : IsCarriedAt ps i.result) → is w.by.op code.Phi ≡ false → carried_from f ps p.result ≡ true
    base_carried w no_phi =
        let x = split_at w.front p (at_front w no_phi) in
        subst (λ (l : List Placed). carried_from f l p.result ≡ true) (sym (w.whole ∙ (ap (λ l. l ++ w.by ∷ w.back) x.2 ∙ append_assoc x.0 (p ∷ x.1) (w.by ∷ w.back))))
        (carried_on f x.0 (p ∷ (x.1 ++ w.by ∷ w.back)) p.result (own (x.1 ++ w.by ∷ w.back) (carried_on f x.1 (w.by ∷ w.back) i.result w.carried)))
      where
        own : (back : List Placed) → carried_from f back i.result ≡ true → carried_from f (p ∷ back) p.result ≡ true
        own back on =
            let carried : carries f (carried_from f back) p.block at ≡ true
            = ap (λ (x : Option Inst). option_map_or (carries_by f (carried_from f back) p.block at) x false) there
            ∙ or_right (is_elsewhere_by f p.block at i) ((at.arg == 0) && (is_chain i.op && carried_from f back i.result)) (and_from (at.arg == 0) (is_chain i.op && carried_from f back i.result) first (and_from (is_chain i.op) (carried_from f back i.result) chain on)) in
            own_carried f back p
            (and_from (is_chain p.op) (carried_from f back p.result || list_any (carries f (carried_from f back) p.block) p.mentions) is_it
            (or_right (carried_from f back p.result) (list_any (carries f (carried_from f back) p.block) p.mentions) (any_in (carries f (carried_from f back) p.block) p.mentions at mentioned carried)))
