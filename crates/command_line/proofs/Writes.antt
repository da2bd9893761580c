-- Calls that write, one after the other.
use Rattle.std.proofs.Common.{subst, ◌++◌, ℕ, List, Option, Result, Ok, Err, refl, sym, ◌∙◌, arith}
use Rattle.std.proofs.KnownBytes.{Appends-trans}
use Rattle.cc_outside.specs.declared.all.WriteEnd.{WriteEnd}
use Rattle.cc_outside.specs.declared.all.WriteEnd.TheVariants.{Fault, Memory}
use Rattle.cc_outside.proofs.Fronts.{front_of, front_after}
use Rattle.command_line.specs.Wrote.{Wrote, Goes, Said}

module _ {K : Type 0} (written : K → Option (List ℕ)) (faults wants : K → ℕ) where
  -- what comes after is not written
  wrote_stop : (a b : K) (xs zs : List ℕ) (e : WriteEnd) → Wrote written faults wants a b xs (Err e) → Wrote written faults wants a b (xs ++ zs) (Err e)
  wrote_stop a b xs zs e w = record { all = tt; front = front_of _ _ _ _ w.front; fault = w.fault; want = w.want }

  -- one after the other
  wrote_then : (a b c : K) (xs ys : List ℕ) (u : Unit {0}) (r : Result (Unit {0}) WriteEnd) → Wrote written faults wants a b xs (Ok u) → Wrote written faults wants b c ys r → Wrote written faults wants a c (xs ++ ys) r
  wrote_then a b c xs ys u (Ok v) first w = record {
    all = Appends-trans _ _ _ _ _ first.all w.all;
    front = front_after _ _ _ _ _ first.all w.front;
    fault = record { later = omega (arith, first.fault.later, w.fault.later); failed = λ e. cc };
    want = record { later = omega (arith, first.want.later, w.want.later); failed = λ e. cc };
  }
  wrote_then a b c xs ys u (Err e) first w = record {
    all = tt;
    front = front_after _ _ _ _ _ first.all w.front;
    fault = record { later = omega (arith, first.fault.later, w.fault.later); failed = λ is. let rose = w.fault.failed is in omega (arith, first.fault.later, rose) };
    want = record { later = omega (arith, first.want.later, w.want.later); failed = λ is. let rose = w.want.failed is in omega (arith, first.want.later, rose) };
  }

  -- a call that goes on after another
  pub goes_then : {a b c : K} {q r s : Result (Unit {0}) WriteEnd} {xs ys : List ℕ} → Goes written faults wants a q xs b r → Goes written faults wants b r ys c s → Goes written faults wants a q (xs ++ ys) c s
  goes_then {a = a} {b = b} {c = c} {r = Ok u} {s = s} {xs = xs} {ys = ys} first more = record {
    from_ok = λ v is. wrote_then a b c xs ys u s (first.from_ok v is) (more.from_ok u refl);
    from_err = λ e is. let k = first.from_err e is in cc;
  }
  goes_then {a = a} {b = b} {c = c} {r = Err d} {s = s} {xs = xs} {ys = ys} first more =
      let k = more.from_err d refl in
      record {
        from_ok = λ v is. let w : Wrote written faults wants a b (xs ++ ys) (Err d) = wrote_stop a b xs ys d (first.from_ok v is) in
            subst (λ r. Wrote written faults wants a c (xs ++ ys) r) (sym k.0) (subst (λ x. Wrote written faults wants a x (xs ++ ys) (Err d)) (sym k.1) w);
        from_err = λ e is. let j = first.from_err e is in (k.0 ∙ j.0, k.1 ∙ j.1);
      }

  -- what was written of a line was said
  pub said : (a b : K) (line : List ℕ) (r : Result (Unit {0}) WriteEnd) → Wrote written faults wants a b line r → Said written faults wants a b line
  said a b line (Ok u) w = record { whole = λ f g. w.all; front = w.front }
  said a b line (Err Fault) w = record { whole = λ f g. absurd (f (w.fault.failed refl)); front = w.front }
  said a b line (Err Memory) w = record { whole = λ f g. absurd (g (w.want.failed refl)); front = w.front }
