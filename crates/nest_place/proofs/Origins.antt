-- What is told of a block from which edges lead.
use Rattle.std.proofs.Common.{◌≡◌, ◌||◌, ℕ, Bool, true, false, List, Option, Some, None, MatchOption, ap, sym, ◌∙◌, refl, lit<}
use Rattle.std.proofs.lemmas.List.Folds.{list_any_at}
use Rattle.structure_rules.specs.declared.graph.Node.{Node}
use Rattle.structure_rules.specs.declared.graph.EdgeKind.{EdgeKind}
use Rattle.structure_rules.specs.declared.graph.EdgeKind.TheVariants as kind
use Rattle.structure_rules.specs.EdgeKinds.{nearest_loop, innermost, innermost_switch, has_kind, has_some_kind, all_kinds, is_enter, is_merge_edge, is_switch_break, is_break, is_continue, is_back, is_fall}
use Rattle.nest_place.specs.declared.kinds.Origin.{Origin}
use Rattle.nest_place.specs.Nests.{IsOrigin, has_outer_kind}

pub origin_nearest : (g : List Node) (b : ℕ) (o : Origin) → IsOrigin g b o → o.nearest ≡ nearest_loop g b
origin_nearest g b o is = is.nearest

pub origin_innermost : (g : List Node) (b : ℕ) (o : Origin) → IsOrigin g b o → o.innermost ≡ innermost g b
origin_innermost g b o is = is.innermost_is

pub origin_switch : (g : List Node) (b : ℕ) (o : Origin) → IsOrigin g b o → o.switch ≡ innermost_switch g b
origin_switch g b o is = is.switch

pub ruleset origin_rules = (origin_nearest, origin_innermost, origin_switch)

-- an edge that no test tells has no kind
pub no_outer : (g : List Node) (b t : ℕ) → is_switch_break g b t ≡ false → is_break g b t ≡ false → is_continue g b t ≡ false → is_back g b t ≡ false → is_fall g b t ≡ false → has_outer_kind g b t ≡ false
no_outer g b t s k c r f = none (is_switch_break g b t) (is_break g b t) (is_continue g b t) (is_back g b t) (is_fall g b t) s k c r f
  where
    none : (s k c r f : Bool) → s ≡ false → k ≡ false → c ≡ false → r ≡ false → f ≡ false → (s || (k || (c || (r || (f || false))))) ≡ false
    none false false false false false s' k' c' r' f' = refl
    none true k c r f s' k' c' r' f' = cc
    none false true c r f s' k' c' r' f' = cc
    none false false true r f s' k' c' r' f' = cc
    none false false false true f s' k' c' r' f' = cc
    none false false false false true s' k' c' r' f' = cc

no_kind : (g : List Node) (b t : ℕ) → is_enter g b t ≡ false → is_merge_edge g b t ≡ false → has_outer_kind g b t ≡ false → has_some_kind g b t ≡ false
no_kind g b t e m o = none (is_enter g b t) (is_merge_edge g b t) (has_outer_kind g b t) e m o
  where
    none : (e m o : Bool) → e ≡ false → m ≡ false → o ≡ false → (e || (m || o)) ≡ false
    none false false false e' m' o' = refl
    none true m o e' m' o' = cc
    none false true o e' m' o' = cc
    none false false true e' m' o' = cc

-- an edge that enters no block and merges no selection has only one of the other kinds
pub outer_only : (g : List Node) (b a t : ℕ) (o : Option EdgeKind) → a ≡ b → is_enter g b t ≡ false → is_merge_edge g b t ≡ false → MatchOption o (has_outer_kind g a t ≡ false) (λ kind. has_kind g a t kind ≡ true) → MatchOption o (has_some_kind g b t ≡ false) (λ kind. has_kind g b t kind ≡ true)
outer_only g b a t None same e m tells = no_kind g b t e m (ap (λ q. has_outer_kind g q t) (sym same) ∙ tells)
outer_only g b a t (Some kind) same e m tells = ap (λ q. has_kind g q t kind) (sym same) ∙ tells

-- an edge that has one of the kinds has some
pub some_kind : (g : List Node) (b t : ℕ) (k : EdgeKind) → has_kind g b t k ≡ true → has_some_kind g b t ≡ true
some_kind g b t kind.Enter e = list_any_at (has_kind g b t) all_kinds 0 kind.Enter (lit< tt) e
some_kind g b t kind.Merge e = list_any_at (has_kind g b t) all_kinds 1 kind.Enter (lit< tt) e
some_kind g b t kind.SwitchBreak e = list_any_at (has_kind g b t) all_kinds 2 kind.Enter (lit< tt) e
some_kind g b t kind.Break e = list_any_at (has_kind g b t) all_kinds 3 kind.Enter (lit< tt) e
some_kind g b t kind.Continue e = list_any_at (has_kind g b t) all_kinds 4 kind.Enter (lit< tt) e
some_kind g b t kind.Back e = list_any_at (has_kind g b t) all_kinds 5 kind.Enter (lit< tt) e
some_kind g b t kind.Fall e = list_any_at (has_kind g b t) all_kinds 6 kind.Enter (lit< tt) e

pub ruleset outer_rules = (no_outer)

pub ruleset kind_rules = (outer_only)
