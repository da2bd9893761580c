-- A case without invocations.
use Rattle.std.proofs.Common.{◌≡◌, ℕ, ◌<◌, ◌*◌, List, [], ◌∷◌, ◌++◌, false, cond, Option, nat_lt, refl, sym, ap, subst, ◌∙◌, arith, mul-zero, zero-mul}
use Rattle.std.proofs.lemmas.Bool.Decides.{nat_tests}
use Rattle.traces.specs.Invocations.{Triple}
use Rattle.dispatch_semantics.specs.Grid.{product}
use Rattle.group_items.specs.Sides.{Runs}
use Rattle.group_items.specs.Schedule.{Setup, among, schedule, Comes}
use Rattle.group_items.specs.declared.schedule.End.TheVariants.{Ended}
use Rattle.dispatch_case.specs.Cases.{CaseParts}
use Rattle.group_sched.specs.Start.{setup_of, first_store}
use Rattle.run_lines.specs.Lines.{AreLines}
use Rattle.run_lines.specs.Said.{IsSaid}

-- no number names one of no invocations
below_none : (i : ℕ) → nat_lt i 0 ≡ false
below_none i = grind (arith, nat_tests)

among_none : (items : List ℕ) → among 0 items ≡ []
among_none [] = refl
among_none (i ∷ is) = ap (λ b. cond b (i ∷ among 0 is) (among 0 is)) (below_none i) ∙ among_none is

nothing_first : (count : ℕ) (first : List ℕ) → count ≡ 0 → [] ≡ schedule count first 0
nothing_first count first none = sym (ap (λ n. schedule n first 0) none ∙ ap (λ xs. xs ++ []) (among_none first))

-- nothing is done, and all has ended
comes_idle : (d : Setup) (runs : Runs) (first : List ℕ) → d.count ≡ 0 → Comes d runs first [] d.store Ended
comes_idle d runs first none =
    let nobody : (i : ℕ) → i < d.count → ⊥ = λ i less. let below : i < 0 = subst (λ n. i < n) none less in omega (arith, below) in
    record {
      items = [];
      run = (refl, refl);
      ends = (((0, nothing_first d.count first none), λ i less. absurd (nobody i less)), λ i less. absurd (nobody i less));
    }

-- so a case says what there was at the start
pub said_idle : (c : CaseParts) (size : Triple) (special : ℕ → Option ℕ) (runs : Runs) (text : List ℕ) → product size ≡ 0 → AreLines c.buffers (first_store c) 0 Ended text → IsSaid c size special runs text
said_idle c size special runs text none lines =
    let count : product c.groups * product size ≡ 0 = ap (λ n. product c.groups * n) none ∙ mul-zero (product c.groups) in
    record {
      events = [];
      store = first_store c;
      end = Ended;
      comes = comes_idle (setup_of c size special) runs c.first count;
      few = omega (arith, count);
      light = omega arith;
      lines = lines;
    }

-- a side of 0
pub empty_x : (y z : ℕ) → product (0, y, z) ≡ 0
empty_x y z = zero-mul (y * z)

pub empty_y : (x z : ℕ) → product (x, 0, z) ≡ 0
empty_y x z = ap (λ n. x * n) (zero-mul z) ∙ mul-zero x

pub empty_z : (x y : ℕ) → product (x, y, 0) ≡ 0
empty_z x y = ap (λ n. x * n) (mul-zero y) ∙ mul-zero x
