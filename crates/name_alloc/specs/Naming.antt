-- The names of claims in their order: of each the base, or the first free number behind it.
use Rattle.std.specs.Prelude.{ℕ, ◌+◌, ◌||◌, Bool, false, List, [], ◌∷◌, ◌++◌, Option, None, Some, codes, nat_eq, bytes_eq, zero, suc, if◌then◌else◌}
use Rattle.std.specs.Option.{option_eq, option_map}
use Rattle.std.specs.List.{list_any}
use Rattle.std.specs.Fmt.{decimal}
use Rattle.name_alloc.specs.declared.claims.Key.{Key}
use Rattle.name_alloc.specs.declared.claims.Key.TheVariants.{Member}
use Rattle.name_alloc.specs.declared.claims.Claim.{Claim}
use Rattle.name_alloc.specs.Keys.{same_key}
use Rattle.name_alloc.specs.Base.{Text, base_of}

-- the first of these many numbers from n on that is not taken, or the one behind them
abbrev pub first_free : (ℕ → Bool) → ℕ → ℕ → ℕ
first_free taken zero n = n
first_free taken (suc more) n = if taken n then first_free taken more (n + 1) else n

-- the base with a number
unfoldable pub numbered : Text → ℕ → Text
numbered base n = base ++ (codes "_" ++ decimal n)

-- the base, or with the least number from 2 on where it is taken; among `count` names one of as many numbers and one more is free
abbrev pub free_name : (Text → Bool) → ℕ → Text → Text
free_name taken count base = if taken base then numbered base (first_free (λ n. taken (numbered base n)) count 2) else base

-- the space of a key's name: the struct's own for a member, and otherwise that of the whole text
abbrev pub space_of : Key → Option ℕ
space_of (Member struct member) = Some struct.0
space_of _ = None

-- two spaces are one
abbrev pub same_space : Option ℕ → Option ℕ → Bool
same_space a b = option_eq nat_eq a b

-- which texts are names in each space, and how many are
pub record Taken : Type 0 where
  pub has : Option ℕ → Text → Bool
  pub count : Option ℕ → ℕ

abbrev pub none_taken : Taken
none_taken = record { has = λ space text. false; count = λ space. 0 }

-- one more name in a space
abbrev pub with_name : Taken → Option ℕ → Text → Taken
with_name taken space name = record {
  has = λ other text. if same_space space other then bytes_eq name text || taken.has other text else taken.has other text;
  count = λ other. if same_space space other then taken.count other + 1 else taken.count other;
}

abbrev pub claim_base : Claim → Text
claim_base c = base_of c.key (option_map (λ v. v.items) c.given)

-- the name of a claim: its base, or with the first number that is free
abbrev pub claim_name : Taken → Claim → Text
claim_name taken c = free_name (taken.has (space_of c.key)) (taken.count (space_of c.key)) (claim_base c)

-- a key has this name, and the others what they had
abbrev pub with_key : (Key → Option Text) → Key → Text → Key → Option Text
with_key found key name other = if same_key key other then Some name else found other

-- the names of keys after these claims in their order, where some names are taken and given
abbrev pub names_from : Taken → (Key → Option Text) → List Claim → Key → Option Text
names_from taken found [] = found
names_from taken found (c ∷ cs) =
    names_from (with_name taken (space_of c.key) (claim_name taken c)) (with_key found c.key (claim_name taken c)) cs

-- the name of a key after these claims, if it is claimed
abbrev pub name_of : List Claim → Key → Option Text
name_of claims = names_from none_taken (λ key. None) claims

-- whether a claim has the key
abbrev pub is_claimed : List Claim → Key → Bool
is_claimed claims key = list_any (λ c. same_key c.key key) claims
