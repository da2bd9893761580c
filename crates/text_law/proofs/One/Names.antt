-- What is claimed determines the names: each is the first that is free behind those before it.
use Rattle.std.proofs.Common.{◌≡◌, List, [], ◌∷◌, Option, None, refl, ap, sym, ◌∙◌}
use Rattle.name_alloc.specs.declared.claims.Claim.{Claim}
use Rattle.name_alloc.specs.declared.claims.Key.{Key}
use Rattle.name_alloc.specs.Base.{Text, base_of}
use Rattle.name_alloc.specs.Naming.{Taken, none_taken, free_name, space_of, with_name, with_key, names_from, name_of}
use Rattle.text_rules.specs.Claims.{Claim as PlainClaim}
use Rattle.text_items.specs.View.{claim_of, claims_of}

-- the names of plain claims
abbrev plain_name : Taken → PlainClaim → Text
plain_name taken c = free_name (taken.has (space_of c.0)) (taken.count (space_of c.0)) (base_of c.0 c.1)

abbrev plain_names : Taken → (Key → Option Text) → List PlainClaim → Key → Option Text
plain_names taken found [] = found
plain_names taken found (c ∷ cs) = plain_names (with_name taken (space_of c.0) (plain_name taken c)) (with_key found c.0 (plain_name taken c)) cs

are_plain : (cs : List Claim) (taken : Taken) (found : Key → Option Text) → names_from taken found cs ≡ plain_names taken found (claims_of cs)
are_plain [] taken found = refl
are_plain (c ∷ cs) taken found = are_plain cs (with_name taken (space_of c.key) (plain_name taken (claim_of c))) (with_key found c.key (plain_name taken (claim_of c)))

-- two lists of the same claims give the same names
pub names_one : (a b : List Claim) → claims_of a ≡ claims_of b → name_of a ≡ name_of b
names_one a b same =
    are_plain a none_taken (λ key. None)
    ∙ (ap (plain_names none_taken (λ key. None)) same ∙ sym (are_plain b none_taken (λ key. None)))
