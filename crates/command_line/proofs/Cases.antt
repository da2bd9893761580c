-- Cases on the command line keep their bounds.
use Rattle.std.proofs.Common.{◌≡◌, List, ℕ, Bool, true, false, cond, refl, rules, subst}
use Rattle.std.specs.Prelude.{Option, Some, None, option_and_then}
use Rattle.dispatch_case.specs.Cases.{CaseParts, is_fine}
use Rattle.dispatch_case.specs.Written.{case_of, if_fine}

fine_by : (d c : CaseParts) (b : Bool) → is_fine d ≡ b → cond b (Some d) None ≡ Some c → is_fine c ≡ true
fine_by d c true is e = let same : d ≡ c = cc in subst (λ (x : CaseParts). is_fine x ≡ true) same is
fine_by d c false is e = cc

fine_of : (o : Option CaseParts) (c : CaseParts) → option_and_then if_fine o ≡ Some c → is_fine c ≡ true
fine_of None c e = cc
fine_of (Some d) c e = fine_by d c (is_fine d) refl e

pub fine_case : (word : List ℕ) (c : CaseParts) → case_of word ≡ Some c → is_fine c ≡ true
fine_case word c e = search (rules, fine_of)
