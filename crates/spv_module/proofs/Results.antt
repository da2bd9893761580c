-- The result of an instruction among the results of all, and which of them are marked.
use Rattle.std.proofs.Common.{◌≡◌, ◌<◌, ◌∙◌, ◌==◌, ◌⊎◌, ◌≢◌, ℕ, Bool, true, false, List, ap, sym, refl, inl, inr, length, get_or, set, arith}
use Rattle.std.proofs.lemmas.List.{get_or-map, get_or-set_same, get_or-set_other}
use Rattle.std.proofs.lemmas.Bool.Decides.{nat_tests}
use Rattle.spv_words.specs.Words.{insts, no_inst, nth_inst}
use Rattle.spv_module.specs.Ids.{result_by, result_of, results}
use Rattle.spv_module.specs.Inst.{inst_of}
use Rattle.spv_module.specs.Kinds.{kind_of}
use Rattle.spv_module.specs.declared.kind.Kind.{Kind}
use Rattle.spv_module.specs.declared.kind.Kind.TheVariants.{Debug}

pub result_at : (ws : List ℕ) (i : ℕ) → i < length (insts ws) → get_or (results ws) i 0 ≡ result_of ws (nth_inst ws i)
result_at ws i inside = get_or-map (result_of ws) (insts ws) i no_inst 0 inside

-- one that is skipped has none
pub skipped : (ws : List ℕ) (i : ℕ) → i < length (insts ws) → kind_of ws (nth_inst ws i) ≡ Debug → get_or (results ws) i 0 ≡ 0
skipped ws i inside is = result_at ws i inside ∙ ap (λ (k : Kind). result_by k (inst_of ws (nth_inst ws i))) is

-- what is marked with one more id
mark_by : (marks : List Bool) (id r : ℕ) (b : Bool) → (r == id) ≡ b → get_or (set marks id true) r false ≡ true → (r ≡ id) ⊎ (get_or marks r false ≡ true)
mark_by marks id r true is on = inl (grind (arith, nat_tests, is))
mark_by marks id r false is on =
    let differs : r ≢ id = grind (arith, nat_tests, is) in
    inr (sym (get_or-set_other marks id r true false differs) ∙ on)

pub mark_before : (marks : List Bool) (id r : ℕ) → get_or (set marks id true) r false ≡ true → (r ≡ id) ⊎ (get_or marks r false ≡ true)
mark_before marks id r on = mark_by marks id r (r == id) refl on

pub mark_here : (marks : List Bool) (id : ℕ) → id < length marks → get_or (set marks id true) id false ≡ true
mark_here marks id inside = get_or-set_same marks id true false inside

still_by : (marks : List Bool) (id r : ℕ) (b : Bool) → (r == id) ≡ b → id < length marks → get_or marks r false ≡ true → get_or (set marks id true) r false ≡ true
still_by marks id r true is inside on =
    let same : r ≡ id = grind (arith, nat_tests, is) in
    ap (λ n. get_or (set marks id true) n false) same ∙ mark_here marks id inside
still_by marks id r false is inside on =
    let differs : r ≢ id = grind (arith, nat_tests, is) in
    get_or-set_other marks id r true false differs ∙ on

pub mark_still : (marks : List Bool) (id r : ℕ) → id < length marks → get_or marks r false ≡ true → get_or (set marks id true) r false ≡ true
mark_still marks id r inside on = still_by marks id r (r == id) refl inside on
