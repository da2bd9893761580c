-- Arguments, from the last one back.
use Rattle.std.proofs.Common.{◌≡◌, ◌==◌, ◌≤◌, ℕ, Bool, true, false, List, [], ◌∷◌, ◌++◌, refl, ap, sym, ◌∙◌, arith, map, length}
use Rattle.std.specs.Prelude.{Option, Some, None, slice_get}
use Rattle.std.specs.Option.{option_or}
use Rattle.std.proofs.lemmas.Option.{same_Some}
use Rattle.std.proofs.lemmas.List.{map-append, length-map}
use Rattle.list_law.proofs.Numbers.{turned}
use Rattle.spv_module.specs.declared.inst.Id.{Id}
use Rattle.module_semantics.specs.State as state
use Rattle.module_semantics.specs.Steps.{argument_of}
use Rattle.run_state.specs.declared.held.Held.{Held}
use Rattle.run_state.specs.Ids.{held_of}

by_test : (t : Bool) (g : state.Held) (more less last : Option state.Held) → more ≡ option_or less last → (elim t as (λ x. Option state.Held) [ true ↦ Some g | false ↦ more ]) ≡ option_or (elim t as (λ x. Option state.Held) [ true ↦ Some g | false ↦ less ]) last
by_test true g more less last e = refl
by_test false g more less last e = e

pub no_argument : (ps : List (Id × Id)) (q : ℕ) → argument_of ps [] q ≡ None
no_argument [] q = refl
no_argument (o ∷ ps) q = refl

-- one argument more, of this parameter
one_more : (ps : List (Id × Id)) (hs : List state.Held) (h : state.Held) (q : ℕ) (p : Id × Id) → slice_get ps (length hs) ≡ Some p → argument_of ps (hs ++ h ∷ []) q ≡ option_or (argument_of ps hs q) (elim (p.0.0 == q) as (λ x. Option state.Held) [ true ↦ Some h | false ↦ None ])
one_more [] hs h q p there = cc
one_more (o ∷ ps) [] h q p there =
    ap (λ m. elim (o.0.0 == q) as (λ x. Option state.Held) [ true ↦ Some h | false ↦ m ]) (no_argument ps q)
    ∙ ap (λ (y : Id × Id). elim (y.0.0 == q) as (λ x. Option state.Held) [ true ↦ Some h | false ↦ None ]) (same_Some o p there)
one_more (o ∷ ps) (g ∷ gs) h q p there = by_test (o.0.0 == q) g (argument_of ps (gs ++ h ∷ []) q) (argument_of ps gs q) (elim (p.0.0 == q) as (λ x. Option state.Held) [ true ↦ Some h | false ↦ None ]) (one_more ps gs h q p there)

-- one argument more, of no parameter
none_more : (ps : List (Id × Id)) (hs : List state.Held) (h : state.Held) (q : ℕ) → length ps ≤ length hs → argument_of ps (hs ++ h ∷ []) q ≡ argument_of ps hs q
none_more [] hs h q past = refl
none_more (o ∷ ps) [] h q past = absurd (omega arith)
none_more (o ∷ ps) (g ∷ gs) h q past = ap (λ m. elim (o.0.0 == q) as (λ x. Option state.Held) [ true ↦ Some g | false ↦ m ]) (none_more ps gs h q (omega arith))

or_step : (a : Option state.Held) (t : Bool) (h : state.Held) (o : Option state.Held) → option_or a (elim t as (λ x. Option state.Held) [ true ↦ Some h | false ↦ o ]) ≡ option_or (option_or a (elim t as (λ x. Option state.Held) [ true ↦ Some h | false ↦ None ])) o
or_step None true h o = refl
or_step None false h o = refl
or_step (Some a) t h o = refl

-- what is noted of the last argument that is left
noted : (ps : List (Id × Id)) (hs : List Held) (x : Held) (p : Id × Id) (q : ℕ) (old : ℕ → Option state.Held) (new : Option state.Held) → slice_get ps (length hs) ≡ Some p → new ≡ state.put old p.0.0 (held_of x) q → option_or (argument_of ps (map held_of hs) q) new ≡ option_or (argument_of ps (map held_of (hs ++ x ∷ [])) q) (old q)
noted ps hs x p q old new there is =
    ap (option_or (argument_of ps (map held_of hs) q)) (is ∙ ap (λ t. elim t as (λ y. Option state.Held) [ true ↦ Some (held_of x) | false ↦ old q ]) (turned q p.0.0))
    ∙ or_step (argument_of ps (map held_of hs) q) (p.0.0 == q) (held_of x) (old q)
    ∙ sym (ap (λ o. option_or o (old q)) (ap (λ l. argument_of ps l q) (map-append held_of hs (x ∷ [])) ∙ one_more ps (map held_of hs) (held_of x) q p (ap (slice_get ps) (length-map hs held_of) ∙ there)))

passed_over : (ps : List (Id × Id)) (hs : List Held) (x : Held) (q : ℕ) (old : Option state.Held) → length ps ≤ length hs → option_or (argument_of ps (map held_of hs) q) old ≡ option_or (argument_of ps (map held_of (hs ++ x ∷ [])) q) old
passed_over ps hs x q old past =
    sym (ap (λ o. option_or o old) (ap (λ l. argument_of ps l q) (map-append held_of hs (x ∷ [])) ∙ none_more ps (map held_of hs) (held_of x) q (omega (arith, past, length-map hs held_of))))

pub all_noted : (ps : List (Id × Id)) (hs : List Held) (q : ℕ) (o : Option state.Held) → hs ≡ [] → o ≡ option_or (argument_of ps (map held_of hs) q) o
all_noted ps hs q o none = sym (ap (λ l. option_or (argument_of ps (map held_of l) q) o) none ∙ ap (λ a. option_or a o) (no_argument ps q))

pub noted_more : (ps : List (Id × Id)) (hs all : List Held) (x : Held) (p : Id × Id) (q : ℕ) (old : ℕ → Option state.Held) (new whole : Option state.Held) → slice_get ps (length hs) ≡ Some p → new ≡ state.put old p.0.0 (held_of x) q → all ≡ hs ++ x ∷ [] → option_or (argument_of ps (map held_of all) q) (old q) ≡ whole → option_or (argument_of ps (map held_of hs) q) new ≡ whole
noted_more ps hs all x p q old new whole there is items known = noted ps hs x p q old new there is ∙ ap (λ l. option_or (argument_of ps (map held_of l) q) (old q)) (sym items) ∙ known

pub passed_more : (ps : List (Id × Id)) (hs all : List Held) (x : Held) (q : ℕ) (old whole : Option state.Held) → length ps ≤ length hs → all ≡ hs ++ x ∷ [] → option_or (argument_of ps (map held_of all) q) old ≡ whole → option_or (argument_of ps (map held_of hs) q) old ≡ whole
passed_more ps hs all x q old whole past items known = passed_over ps hs x q old past ∙ ap (λ l. option_or (argument_of ps (map held_of l) q) old) (sym items) ∙ known
