-- The plain claim that a claim of the code stands for.
use Rattle.std.specs.Prelude.{List, map, option_map}
use Rattle.name_alloc.specs.declared.claims.Claim.{Claim}
use Rattle.text_rules.specs.Claims.{Claim as PlainClaim}

abbrev pub claim_of : Claim → PlainClaim
claim_of c = (c.key, option_map (λ v. v.items) c.given)

abbrev pub claims_of : List Claim → List PlainClaim
claims_of cs = map claim_of cs
