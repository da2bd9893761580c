use Rattle.std.proofs.Common.{◌≡◌, None, Some, IfOk, refl, sym, ◌∙◌, subst}
use Rattle.std.proofs.lemmas.Result.{on_ok_weaker}
use Rattle.glsl_ast.specs.View.{name_text}
use Rattle.name_alloc.specs.declared.space.Spaces.{Spaces}
use Rattle.name_alloc.specs.Naming.{claim_name}
use Rattle.name_alloc.specs.Given.{taken_of}
use Rattle.name_alloc.specs.Taken.{claimed_name}
use Rattle.name_alloc.proofs.Named.{space_some, back_text, back_members, named_now, name_now}
use Rattle.name_alloc.proofs.naming.name_claim.Goals as goal

pub claim-requires : goal.claim-requires
claim-requires c = c.requires.each None c.args.spaces.now.text refl

pub claim-requires-in-Some : goal.claim-requires-in-Some
claim-requires-in-Some c = c.held_in-held.ensures.space.skipping (λ h e. c.requires.each (Some c.in-Some.block) h e)

pub returns-in-None-clause-named : goal.returns-in-None-clause-named
returns-in-None-clause-named c =
    let old = c.args.spaces.now in
    let now = c.claim.new.space in
    let base = name_text c.in_ok-base.base in
    let new : Spaces = record { text = now; members = old.members } in
    on_ok_weaker c.claim.result
    (λ claimed. named_now old None old.text now base (claimed_name old.text base) new (space_some old.text) claimed (back_text old now new refl refl)
    c.args.claimed.now c.requires (sym c.in-None.is ∙ c.space_of.ensures) c.in_ok-base.ensures) c.claim.ensures.claimed

pub returns-in-None-clause-name : goal.returns-in-None-clause-name
returns-in-None-clause-name c =
    let old = c.args.spaces.now in
    let base = name_text c.in_ok-base.base in
    let now : claimed_name old.text base ≡ claim_name (taken_of old) c.args.claimed.now =
    name_now old None old.text base (space_some old.text) c.args.claimed.now (sym c.in-None.is ∙ c.space_of.ensures) c.in_ok-base.ensures in
    subst (λ t. IfOk c.claim.result (λ name. name_text name ≡ t)) now c.claim.ensures.name

pub returns-in_ok-insert-in-Some-clause-named : goal.returns-in_ok-insert-in-Some-clause-named
returns-in_ok-insert-in-Some-clause-named c =
    let old = c.args.spaces.now in
    let held = c.held_in-held.result in
    let now = c.claim-in-Some.new.space in
    let base = name_text c.in_ok-base.base in
    let new : Spaces = record { text = old.text; members = c.insert.new.self } in
    named_now old (Some c.in-Some.block) held now base (claimed_name held base) new c.held_in-held.ensures.space c.in_ok-name-in-Some.ensures.claimed
    (back_members old c.in-Some.block held c.held_in-held.new.members now new c.held_in-held.ensures refl c.in_ok-insert-in-Some.ensures.updates.0)
    c.args.claimed.now c.requires (sym c.in-Some.is ∙ c.space_of.ensures) c.in_ok-base.ensures

pub returns-in_ok-insert-in-Some-clause-name : goal.returns-in_ok-insert-in-Some-clause-name
returns-in_ok-insert-in-Some-clause-name c =
    let old = c.args.spaces.now in
    let held = c.held_in-held.result in
    let base = name_text c.in_ok-base.base in
    c.in_ok-name-in-Some.ensures.name
    ∙ name_now old (Some c.in-Some.block) held base c.held_in-held.ensures.space c.args.claimed.now (sym c.in-Some.is ∙ c.space_of.ensures) c.in_ok-base.ensures
