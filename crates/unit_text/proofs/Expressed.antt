-- The expressions of globals, one instruction after another.
use Rattle.std.proofs.Common.{◌≡◌, ◌<◌, ◌==◌, ◌||◌, ◌+◌, ℕ, Bool, true, false, List, [], ◌∷◌, Option, Some, None, cond, get_or, length, take, refl, sym, ◌∙◌, ap, if◌then◌else◌}
use Rattle.std.specs.Prelude.{option_and_then}
use Rattle.std.specs.List.{list_any}
use Rattle.std.proofs.lemmas.Bool.{eqb-true}
use Rattle.std.proofs.lemmas.List.Folds.{list_any_more}
use Rattle.spv_module.specs.Held.{global}
use Rattle.spv_module.specs.declared.inst.Inst.{Inst}
use Rattle.name_alloc.specs.declared.claims.Names.{Names as Given}
use Rattle.glsl_ast.specs.Tree.{Expr}
use Rattle.constant_text.specs.Named.{id_names}
use Rattle.text_items.specs.Globals.{global_by}
use Rattle.text_rules.specs.Constants.{Source}
use Rattle.unit_text.specs.Reached.{or_before, has_result, expr_among}
use Rattle.unit_rules.specs.Translation.{global_expr}

-- nothing is put where there is nothing
pub nothing_put : (b : Bool) (o : Option Expr) → o ≡ or_before o (if b then None else None)
nothing_put true o = refl
nothing_put false o = refl

pub something_put : (b : Bool) (e : Expr) (o : Option Expr) → (if b then Some e else o) ≡ or_before o (if b then Some e else None)
something_put true e o = refl
something_put false e o = refl

both : (x : Option Expr) → or_before x x ≡ x
both None = refl
both (Some e) = refl

first : (x : Option Expr) → or_before None x ≡ x
first None = refl
first (Some e) = refl

joined : (a b : Bool) (x : Option Expr) → or_before (if a then x else None) (if b then x else None) ≡ (if a || b then x else None)
joined true true x = both x
joined true false x = refl
joined false true x = first x
joined false false x = refl

pub among_more : (s : Source) (names : Given) (gs : List Inst) (i n : ℕ) (g : Inst) (old new put : Option Expr) → i < length gs → g ≡ get_or gs i g → old ≡ expr_among s names (take i gs) n
    → new ≡ or_before old (if g.result == n then put else None) → put ≡ global_expr s (id_names names) g.result → new ≡ expr_among s names (take (i + 1) gs) n
among_more s names gs i n g old new put less at before now is =
    now
    ∙ (ap (λ o. or_before o (if g.result == n then put else None)) before
    ∙ (ap (or_before (expr_among s names (take i gs) n)) own
    ∙ (joined (list_any (has_result n) (take i gs)) (g.result == n) (global_expr s (id_names names) n)
    ∙ sym (ap (λ b. if b then global_expr s (id_names names) n else None) (list_any_more (has_result n) gs i g less ∙ ap (λ (x : Inst). list_any (has_result n) (take i gs) || (x.result == n)) (sym at))))))
  where
    step : (b : Bool) → (g.result == n) ≡ b → (if b then put else None) ≡ (if b then global_expr s (id_names names) n else None)
    step true e = is ∙ ap (global_expr s (id_names names)) (eqb-true g.result n e)
    step false e = refl

    own : (if g.result == n then put else None) ≡ (if g.result == n then global_expr s (id_names names) n else None)
    own = step (g.result == n) refl

none_found : (n : ℕ) (gs : List Inst) → list_any (has_result n) gs ≡ false → global gs n ≡ None
none_found n [] none = refl
none_found n (g ∷ gs) none = step (g.result == n) none (none_found n gs)
  where
    step : (b : Bool) → (b || list_any (has_result n) gs) ≡ false → (list_any (has_result n) gs ≡ false → global gs n ≡ None) → cond b (Some g) (global gs n) ≡ None
    step true e later = cc
    step false e later = later e

pub among_all : (s : Source) (names : Given) (gs : List Inst) (n : ℕ) → gs ≡ s.of.globals → expr_among s names gs n ≡ global_expr s (id_names names) n
among_all s names gs n all = step (list_any (has_result n) gs) refl
  where
    step : (b : Bool) → list_any (has_result n) gs ≡ b → (if b then global_expr s (id_names names) n else None) ≡ global_expr s (id_names names) n
    step true e = refl
    step false e = sym (ap (option_and_then (global_by s (id_names names))) (ap (λ xs. global xs n) (sym all) ∙ none_found n gs e))
