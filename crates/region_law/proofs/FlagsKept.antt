-- Statements that write no flag keep the flags, and leave the braces as they were but for new names in the innermost.
use Rattle.std.proofs.Common.{◌≡◌, ◌≢◌, ℕ, suc, Bool, true, false, List, [], ◌∷◌, ◌++◌, length, drop, Some, refl, sym, ap, ◌∙◌, subst, arith}
use Rattle.spv_types.specs.Tree.{ValueTree}
use Rattle.glsl_ast.specs.Tree.{Text, Stmt, stmts_in, Decl}
use Rattle.traces.specs.Outcomes.{normal, breaks, continues, returns, cut, waits, stuck}
use Rattle.glsl_semantics.specs.States.{Variable, Frame, State, found_in, has_in, put_in, put_first, declared, pushed, popped, with_value, Thing}
use Rattle.glsl_semantics.specs.Expressions.{Program}
use Rattle.glsl_semantics.specs.Statements.{Run, stmts_run}
use Rattle.glsl_semantics.specs.Run.{calls_of}
use Rattle.glsl_semantics.proofs.Appended.{OnOutcome}
use Rattle.write_law.specs.Writes.{StmtsWrite, IsWithin}
use Rattle.write_law.proofs.Kept.{IsKept, stmts_keep}
use Rattle.write_law.proofs.KeptCalls.{calls_keep}
use Rattle.region_law.proofs.Flags.{other_text, found_popped, other_declared, other_put}
use Rattle.region_law.proofs.Regions.{names, names_of, named_in, top_named, put_names, Keeps}

on_mapped : (I J : State → Type 0) → ((s : State) → I s → J s) → (o : Run) → OnOutcome I o → OnOutcome J o
on_mapped I J f (normal e s) h = f s h
on_mapped I J f (breaks e s) h = f s h
on_mapped I J f (continues e s) h = f s h
on_mapped I J f (returns e v s) h = f s h
on_mapped I J f (cut e) h = tt
on_mapped I J f (waits e) h = tt
on_mapped I J f (stuck e) h = tt

module _ (IsFlag : Text → Type 0) where
  -- names that are no flags
  abbrev pub IsOther : Text → Type 0
  IsOther w = IsFlag w → ⊥

  apart_from : (w x : Text) → IsOther w → IsFlag x → w ≢ x
  apart_from w x other flag e = other (subst IsFlag (sym e) flag)

  abbrev IsClean : List Text → Type 0
  IsClean t = (x : Text) → IsFlag x → named_in t x ≡ false

  abbrev AreClean : List (List Text) → Type 0
  AreClean [] = Unit {0}
  AreClean (t ∷ ts) = IsClean t × AreClean ts

  clean_more : (w : Text) (t : List Text) → IsOther w → IsClean t → IsClean (w ∷ t)
  clean_more w t other clean x flag = rw (other_text w x (apart_from w x other flag), named_in) (clean x flag)

  module _ (s : State) (t : List Text) (ns : List (List Text)) where
    -- inside so many braces more
    pub record Inside (d : ℕ) (z : State) : Type 0 where
      pub found : (x : Text) → IsFlag x → found_in z.frames x ≡ found_in s.frames x
      pub inner : List (List Text)
      pub count : length inner ≡ d
      pub clean_inner : AreClean inner
      pub more : List Text
      pub clean : IsClean more
      pub shape : names_of z.frames ≡ inner ++ (more ++ t) ∷ ns

    declared_names : (fs : List Frame) (w : Text) (x : Variable) (a : List Text) (as' : List (List Text)) → names_of fs ≡ a ∷ as' → names_of (declared fs w x) ≡ (w ∷ a) ∷ as'
    declared_names [] w x a as' e = cc
    declared_names (f ∷ fs) w x a as' e = let p : names f ≡ a = cc in let q : names_of fs ≡ as' = cc in ap (λ l. (w ∷ l) ∷ names_of fs) p ∙ ap (λ l. (w ∷ a) ∷ l) q

    dropped_names : (fs : List Frame) (a : List Text) (as' : List (List Text)) → names_of fs ≡ a ∷ as' → names_of (drop 1 fs) ≡ as'
    dropped_names [] a as' e = cc
    dropped_names (f ∷ fs) a as' e = cc

    put_kept : (d : ℕ) (z : State) (w : Text) (v : ValueTree) → IsOther w → Inside d z → Inside d (with_value w v z)
    put_kept d z w v other h = by_test (has_in z.frames w)
      where
        by_test : (b : Bool) → Inside d (elim b [ true ↦ record z { frames = put_in z.frames w v } | false ↦ record z { globals = put_first z.globals w v } ])
        by_test true = record {
          found = λ x flag. other_put z.frames w x v (apart_from w x other flag) ∙ h.found x flag;
          inner = h.inner;
          count = h.count;
          clean_inner = h.clean_inner;
          more = h.more;
          clean = h.clean;
          shape = put_names z.frames w v ∙ h.shape;
        }
        by_test false = record { found = h.found; inner = h.inner; count = h.count; clean_inner = h.clean_inner; more = h.more; clean = h.clean; shape = h.shape }

    declare_kept : (d : ℕ) (z : State) (w : Text) (x : Variable) → IsOther w → Inside d z → Inside d (record z { frames = declared z.frames w x })
    declare_kept d z w x other h = by_inner h.inner h.count h.clean_inner h.shape
      where
        still : (y : Text) → IsFlag y → found_in (declared z.frames w x) y ≡ found_in s.frames y
        still y flag = other_declared z.frames w y x (apart_from w y other flag) ∙ h.found y flag

        by_inner : (inner : List (List Text)) → length inner ≡ d → AreClean inner → names_of z.frames ≡ inner ++ (h.more ++ t) ∷ ns → Inside d (record z { frames = declared z.frames w x })
        by_inner [] c clean e = record { found = still; inner = []; count = c; clean_inner = tt; more = w ∷ h.more; clean = clean_more w h.more other h.clean; shape = declared_names z.frames w x (h.more ++ t) ns e }
        by_inner (i ∷ is) c clean e = record {
          found = still;
          inner = (w ∷ i) ∷ is;
          count = c;
          clean_inner = (clean_more w i other clean.0, clean.1);
          more = h.more;
          clean = h.clean;
          shape = declared_names z.frames w x i (is ++ (h.more ++ t) ∷ ns) e;
        }

    enter_kept : (d : ℕ) (z : State) → Inside d z → Inside (suc d) (pushed z)
    enter_kept d z h = record { found = h.found; inner = [] ∷ h.inner; count = ap suc h.count; clean_inner = ((λ x flag. refl), h.clean_inner); more = h.more; clean = h.clean; shape = ap (λ l. [] ∷ l) h.shape }

    exit_kept : (d : ℕ) (z : State) → Inside (suc d) z → Inside d (popped z)
    exit_kept d z h = by_inner h.inner h.count h.clean_inner h.shape
      where
        by_inner : (inner : List (List Text)) → length inner ≡ suc d → AreClean inner → names_of z.frames ≡ inner ++ (h.more ++ t) ∷ ns → Inside d (popped z)
        by_inner [] c clean e = absurd (omega (arith, c))
        by_inner (i ∷ is) c clean e = record {
          found = λ x flag. found_popped z x (top_named z.frames x i (is ++ (h.more ++ t) ∷ ns) e ∙ clean.0 x flag) ∙ h.found x flag;
          inner = is;
          count = omega (arith, c);
          clean_inner = clean.1;
          more = h.more;
          clean = h.clean;
          shape = dropped_names z.frames i (is ++ (h.more ++ t) ∷ ns) e;
        }

    inside_kept : IsKept IsOther Inside
    inside_kept = record {
      answers = λ d z more h. record { found = h.found; inner = h.inner; count = h.count; clean_inner = h.clean_inner; more = h.more; clean = h.clean; shape = h.shape };
      puts = put_kept;
      declares = declare_kept;
      enters = enter_kept;
      exits = exit_kept;
    }

    at_start : names_of s.frames ≡ t ∷ ns → Inside 0 s
    at_start e = record { found = λ x flag. refl; inner = []; count = refl; clean_inner = tt; more = []; clean = λ x flag. refl; shape = e }

    at_end : names_of s.frames ≡ t ∷ ns → (z : State) → Inside 0 z → Keeps IsFlag s z
    at_end start z h = by_inner h.inner h.count h.shape
      where
        by_inner : (inner : List (List Text)) → length inner ≡ 0 → names_of z.frames ≡ inner ++ (h.more ++ t) ∷ ns → Keeps IsFlag s z
        by_inner (i ∷ is) c e = absurd (omega (arith, c))
        by_inner [] c e = record {
          found = h.found;
          more = h.more;
          clean = h.clean;
          shape = λ u ms f. let whole : t ∷ ns ≡ u ∷ ms = sym start ∙ f in let a : t ≡ u = cc in let b : ns ≡ ms = cc in e ∙ ap (λ l. (h.more ++ l) ∷ ns) a ∙ ap (λ l. (h.more ++ u) ∷ l) b;
        }

    -- where the program's own names stand for no variables, and calls are those of the functions before
    pub flags_kept : (p : Program) (k : ℕ) (items : List Decl) → ((w : Text) (x : Thing) → p.things w ≡ Some x → IsWithin IsOther x) → (xs : List Stmt) → StmtsWrite IsOther (stmts_in xs) → names_of s.frames ≡ t ∷ ns
        → OnOutcome (Keeps IsFlag s) (stmts_run p (calls_of p k items) k (stmts_in xs) s)
    flags_kept p k items outside xs writes start =
        on_mapped (Inside 0) (Keeps IsFlag s) (at_end start) (stmts_run p (calls_of p k items) k (stmts_in xs) s)
        (stmts_keep p (calls_of p k items) k IsOther Inside inside_kept outside
        (calls_keep p k IsOther Inside inside_kept outside (λ d z g h. record { found = h.found; inner = h.inner; count = h.count; clean_inner = h.clean_inner; more = h.more; clean = h.clean; shape = h.shape }) items)
        (stmts_in xs) writes 0 s (at_start start))
