use Rattle.std.proofs.Common.{rules, ◌≡◌, ◌+◌, ◌<◌, ◌++◌, ℕ, suc, arith, [], ◌∷◌, Some, cond, is_some, length, drop, get_or, ap, sym, ◌∙◌, subst}
use Rattle.std.proofs.Math.Seq.{drop-cons}
use Rattle.std.proofs.Math.ListN.{drop_of_length-le}
use Rattle.glsl_ast.specs.View.{name_text}
use Rattle.name_alloc.specs.declared.claims.Key.{Key}
use Rattle.name_alloc.specs.Keys.{same_key}
use Rattle.name_alloc.specs.Places.{place_in}
use Rattle.name_alloc.specs.Lookup.{name_in}
use Rattle.name_alloc.specs.Naming.{names_from, name_of, claim_name, with_key}
use Rattle.name_alloc.specs.Given.{taken_of, name_at}
use Rattle.name_alloc.specs.declared.space.Spaces.{Spaces}
use Rattle.name_alloc.proofs.Lawful.{given_none, given_step, claimed_is, name_before}
use Rattle.name_alloc.proofs.Named.{Empty, found_put, stand_put, skipping_empty, names_begin, names_step}
use Rattle.name_alloc.proofs.naming.names.Goals as goal

pub loop-claimed-preserved : goal.loop-claimed-preserved
loop-claimed-preserved c =
    let claims = c.args.claims.now in
    let j : ℕ = c.loop-claimed.claimed-index in
    let item = c.claimed-item.result in
    let old = c.loop-claimed.spaces in
    let new = c.name_claim.new.spaces in
    let names = c.loop-claimed.names.items in
    let places = c.loop-claimed.places in
    let more = c.put.new.self in
    let added = c.in_ok-name_claim.field-0 in
    let now = c.push.new.self.items in
    let pushed : now ≡ names ++ added ∷ [] = search rules in
    let name = claim_name (taken_of old) item in
    let text : name_text added ≡ name = c.in_ok-name_claim.ensures.name in
    let named = c.in_ok-name_claim.ensures.named in
    let given = c.loop-claimed.invariant.1 in
    let below : j < length claims = search rules in
    let is_item : get_or claims j item ≡ item = search rules in
    let after : suc j ≡ j + 1 = omega arith in
    let split : drop j claims ≡ get_or claims j item ∷ drop (j + 1) claims = subst (λ n. drop j claims ≡ get_or claims j item ∷ drop n claims) after (drop-cons claims j item below) in
    let parts : drop j claims ≡ item ∷ drop (j + 1) claims = split ∙ ap (λ x. x ∷ drop (j + 1) claims) is_item in
    let size : c.len.result ≡ length names = search rules in
    let put : (k : Key) → place_in more k ≡ cond (same_key item.key k) (Some (length names)) (place_in places k) =
    λ k. c.in_ok-put.ensures k ∙ ap (λ n. cond (same_key item.key k) (Some n) (place_in places k)) size in
    let found : (k : Key) → name_at now more k ≡ with_key (name_at names places) item.key name k =
    λ k. ap (λ l. name_at l more k) pushed ∙ (found_put names places more item.key added put given.stand k ∙ ap (λ t. with_key (name_at names places) item.key t k) text) in
    let stand : (k : Key) → is_some (name_at now more k) ≡ is_some (place_in more k) =
    λ k. ap (λ l. is_some (name_at l more k)) pushed ∙ stand_put names places more item.key added put given.stand k in (
      named.skipping,
      given_step old new names now places more item name named found stand given,
      λ key. sym (names_step old new names now places more item (drop (j + 1) claims) named found key)
          ∙ (ap (λ l. names_from (taken_of old) (name_at names places) l key) (sym parts) ∙ c.loop-claimed.invariant.2 key),
    )

pub returns-clause-claimed : goal.returns-clause-claimed
unfolding name_in
returns-clause-claimed c =
    let claims = c.args.claims.now in
    let none : drop c.loop-claimed.claimed-index claims ≡ [] = drop_of_length-le claims c.loop-claimed-test.false in
    λ key. ap is_some (ap (λ l. names_from (taken_of c.loop-claimed.spaces) (name_at c.loop-claimed.names.items c.loop-claimed.places) l key) (sym none) ∙ c.loop-claimed.invariant.2 key) ∙ claimed_is claims key

pub returns-clause-kept : goal.returns-clause-kept
unfolding name_in
returns-clause-kept c =
    let claims = c.args.claims.now in
    let none : drop c.loop-claimed.claimed-index claims ≡ [] = drop_of_length-le claims c.loop-claimed-test.false in
    λ done more key parts free. ap (λ l. names_from (taken_of c.loop-claimed.spaces) (name_at c.loop-claimed.names.items c.loop-claimed.places) l key) (sym none)
    ∙ (c.loop-claimed.invariant.2 key ∙ (ap (λ l. name_of l key) parts ∙ name_before done more key free))

pub returns-clause-names : goal.returns-clause-names
unfolding name_in
returns-clause-names c =
    let claims = c.args.claims.now in
    let none : drop c.loop-claimed.claimed-index claims ≡ [] = drop_of_length-le claims c.loop-claimed-test.false in
    λ key. ap (λ l. names_from (taken_of c.loop-claimed.spaces) (name_at c.loop-claimed.names.items c.loop-claimed.places) l key) (sym none) ∙ c.loop-claimed.invariant.2 key

pub returns-clause-laws : goal.returns-clause-laws
unfolding name_in
returns-clause-laws c = c.loop-claimed.invariant.1.laws

pub loop-claimed-init : goal.loop-claimed-init
loop-claimed-init c =
    let spaces : Spaces = record { text = c.in_ok-with_capacity.field-0; members = c.new.result } in
    let names = c.in_ok-names.names.items in
    let places = c.in_ok-places.places in
    let empty : Empty spaces = (c.in_ok-with_capacity.ensures.empty, c.new.ensures.empty) in (
      skipping_empty spaces empty,
      given_none spaces names places c.in_ok-places.ensures,
      λ key. names_begin spaces names places c.args.claims.now empty c.in_ok-places.ensures key,
    )
