use Rattle.std.proofs.Common.{rules, ◌≡◌, ◌-◌, ◌+◌, ◌<◌, ◌^◌, Some, sym, ◌∙◌, subst}
use Rattle.glsl_ast.specs.View.{name_text}
use Rattle.name_alloc.specs.Naming.{numbered, first_free}
use Rattle.name_alloc.specs.Taken.{number_at, is_held, held_count, IsPut, IsClaimed}
use Rattle.name_alloc.proofs.Claimed.{claimed_again, claimed_is_name}
use Rattle.name_alloc.proofs.space.claim.Goals as goal

pub free_number-requires : goal.free_number-requires
free_number-requires c =
    let at : number_at c.args.space.now (name_text c.args.base) ≡ Some c.in-Some.start = sym c.in_ok-put.ensures.was ∙ c.in-Some.is in
    let next = c.requires.next (name_text c.args.base) c.in-Some.start at in
    search (rules, next.most)

pub overflow_add-number : goal.overflow_add-number
overflow_add-number c = search (rules, c.len-last.ensures.small, c.in_ok-number-in-Some.ensures.within)

again : (c : goal.In_ok-put-in-Some-2) → IsClaimed c.args.space.now c.put-in-Some-2.new.space (name_text c.args.base) (name_text c.in_ok-name-in-Some.name)
again c =
    let old = c.args.space.now in
    let first = c.put.new.space in
    let mid = c.put-in-Some.new.space in
    let new = c.put-in-Some-2.new.space in
    let base = name_text c.args.base in
    let start = c.in-Some.start in
    let number = c.in_ok-number-in-Some.number in
    let name = name_text c.in_ok-name-in-Some.name in
    let same_base : name_text c.in_ok-own.own ≡ base = c.in_ok-own.ensures in
    let at : number_at old base ≡ Some start = sym c.in_ok-put.ensures.was ∙ c.in-Some.is in
    let small : held_count old < 2 ^ 63 = rw (← c.len-last.ensures.len) c.len-last.ensures.small in
    let found_here : number ≡ first_free (λ k. is_held first (numbered base k)) (c.len-last.result + 2 - start) start =
    subst (λ b. number ≡ first_free (λ k. is_held first (numbered b k)) (c.len-last.result + 2 - start) start) (c.as_str.ensures ∙ same_base) c.in_ok-number-in-Some.ensures.first in
    let found : number ≡ first_free (λ k. is_held first (numbered base k)) (held_count old + 2 - start) start =
    subst (λ l. number ≡ first_free (λ k. is_held first (numbered base k)) (l + 2 - start) start) c.len-last.ensures.len found_here in
    let is : name ≡ numbered base number = subst (λ b. name ≡ numbered b number) (c.as_str-in-Some.ensures ∙ same_base) c.in_ok-name-in-Some.ensures in
    claimed_again old first mid new base name start number c.requires small at c.in_ok-put.ensures.puts found is
    (subst (λ t. IsPut first mid t 2) c.in_ok-shared-in-Some.ensures c.in_ok-put-in-Some.ensures.puts) (subst (λ b. IsPut mid new b (number + 1)) same_base c.in_ok-put-in-Some-2.ensures.puts)

pub returns-in_ok-put-in-Some-2-clause-claimed : goal.returns-in_ok-put-in-Some-2-clause-claimed
returns-in_ok-put-in-Some-2-clause-claimed c =
    claimed_is_name c.args.space.now c.put-in-Some-2.new.space (name_text c.args.base) (name_text c.in_ok-name-in-Some.name) (again c)

pub returns-in_ok-put-in-Some-2-clause-name : goal.returns-in_ok-put-in-Some-2-clause-name
returns-in_ok-put-in-Some-2-clause-name c = (again c).name_is
