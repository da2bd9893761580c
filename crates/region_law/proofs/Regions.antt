-- The machine follows the text of a region.
use Rattle.std.proofs.Common.{◌≡◌, ◌≢◌, ℕ, ◌+◌, Bool, true, false, List, [], ◌∷◌, ◌++◌, drop, map, bytes_eq, Option, Some, None, ◌⊎◌, inl, inr, ⊎_elim, refl, sym, ap, ◌∙◌, subst, arith, append_assoc}
use Rattle.std.specs.Prelude.{if◌then◌else◌}
use Rattle.std.proofs.lemmas.Bool.{cases_Bool, both_ways}
use Rattle.std.proofs.lemmas.Bool.Decides.{eqb_tells}
use Rattle.std.specs.Prelude.{nat_eq, cond}
use Rattle.std.specs.Option.{option_to_list, option_map_or}
use Rattle.std.specs.Map.{update, update_all}
use Rattle.std.proofs.lemmas.Option.{same_Some}
use Rattle.spv_types.specs.Tree.{ValueTree, truth}
use Rattle.glsl_ast.specs.Tree as tree
use Rattle.glsl_ast.specs.Tree.{Text, Expr, name, not, Stmt, when, either, stmts_in, Stmts, give}
use Rattle.glsl_ast.specs.declared.statements.Label.{Label}
use Rattle.structure_rules.specs.declared.graph.EdgeKind.{EdgeKind}
use Rattle.structure_rules.specs.declared.graph.EdgeKind.TheVariants.{Enter, Merge, SwitchBreak, Break, Continue, Back, Fall}
use Rattle.structure_recover.specs.declared.region.Exit.TheVariants.{Edge, Return, Lost, Closed}
use Rattle.structure_recover.specs.Tree.{Region, ends, item, Item, plain, choose, loose, loop_on, switch, Groups, none, group, targets}
use Rattle.control_text.specs.declared.place.Place.{Place}
use Rattle.control_text.specs.Statements.{Blocks, set_flag, declare_flag, flags, conditional, unless_fallen, edge_text, entering, loop_text, turn, region_text, item_text, inside_loop, inside_switch, labels_text, fell_flags, groups_text, entering_case, by_target, in_order, leave_loop, behind_switch as behind_text, leave_again, groups_have_break}
use Rattle.traces.specs.Runs.{Move, go, wrong}
use Rattle.traces.specs.Outcomes.{normal, breaks, continues, returns, cut, waits, stuck, begun, then_do, behind_switch, Result, got}
use Rattle.traces.specs.Simulation.{Lands, Follows}
use Rattle.traces.proofs.Moves.{stays, one_step, fails_now, after_coming, weaker, begun_none, Never, NeverGives, part_then, stmt_then, turns_follow}
use Rattle.glsl_semantics.specs.Shapes.{Typed, typed, boolean}
use Rattle.glsl_semantics.specs.States.{Variable, Frame, State, has, found_in, put_first, put_in, declared, popped, pushed, with_value}
use Rattle.glsl_semantics.specs.Expressions.{Program, Argument, named, evaluate}
use Rattle.glsl_semantics.specs.Statements.{Run, closed, in_braces, stmt_run, stmts_run, arms_run, arms_from}
use Rattle.glsl_semantics.proofs.Appended.{run_append, OnOutcome}
use Rattle.list_law.proofs.Options.{none_some}
use Rattle.region_law.specs.Leads.{Term, jump, branch, table, return, lost, Ways, if_there, out_of, IsBlock, IsItem, IsEdge, Fresh, FreshIf, EdgeLeads, PlainLeads, BreakLeads, BackLeads, Leads, In, AreApart, AreInOrder, IsOrder, FreshGroups, FreshBodies, FellFresh, GroupsLead, OutLeads, in_case, out_if}
use Rattle.region_law.proofs.Flags.{same_text, own_text, other_text, top_has, found_popped, found_declared, other_declared, found_put, other_put, in_found}

-- what is known of flags: that one is declared, and its value
abbrev pub Flags : Type 0
Flags = Text → Option (Option Bool)

abbrev upd : Flags → Text → Option Bool → Flags
upd f x v y = elim (bytes_eq x y) [ true ↦ Some v | false ↦ f y ]

-- the entry that is changed, and another
pub update_own : {X : Type 0} (f : ℕ → Option X) (j u : ℕ) (x : Option X) → j ≡ u → update nat_eq f j x u ≡ x
update_own f j u x same = elim (eqb_tells j u) [ inl e ↦ ap (λ b. cond b x (f u)) e.0 | inr e ↦ absurd (e.1 same) ]

pub update_apart : {X : Type 0} (f : ℕ → Option X) (j u : ℕ) (x : Option X) → (j ≡ u → ⊥) → update nat_eq f j x u ≡ f u
update_apart f j u x ne = elim (eqb_tells j u) [ inl e ↦ absurd (ne e.1) | inr e ↦ ap (λ b. cond b x (f u)) e.0 ]

upd_own : (f : Flags) (x : Text) (v : Option Bool) → upd f x v x ≡ Some v
upd_own f x v = rw (own_text x, upd) refl

upd_other : (f : Flags) (x y : Text) (v : Option Bool) → x ≢ y → upd f x v y ≡ f y
upd_other f x y v ne = rw (other_text x y ne, upd) refl

upd_tells : (f : Flags) (x y : Text) (v u : Option Bool) → upd f x v y ≡ Some u → ((x ≡ y) × (v ≡ u)) ⊎ ((x ≢ y) × (f y ≡ Some u))
upd_tells f x y v u e = by_test (bytes_eq x y) refl e
  where
    by_test : (t : Bool) → bytes_eq x y ≡ t → elim t as (λ q. Option (Option Bool)) [ true ↦ Some v | false ↦ f y ] ≡ Some u → ((x ≡ y) × (v ≡ u)) ⊎ ((x ≢ y) × (f y ≡ Some u))
    by_test true is e = let same : v ≡ u = cc in inl (same_text x y is, same)
    by_test false is e = inr (λ q. both_ways (bytes_eq x y) is (subst (λ z. bytes_eq x z ≡ true) q (own_text x)), e)

-- the names of braces
abbrev pub names : Frame → List Text
names f = map (λ (b : Text × Variable). b.0) f

abbrev pub names_of : List Frame → List (List Text)
names_of fs = map names fs

abbrev pub named_in : List Text → Text → Bool
named_in [] x = false
named_in (y ∷ ys) x = elim (bytes_eq y x) [ true ↦ true | false ↦ named_in ys x ]

pub has_named : (f : Frame) (x : Text) → has f x ≡ named_in (names f) x
has_named [] x = refl
has_named (b ∷ bs) x = ap (λ t. elim (bytes_eq b.0 x) [ true ↦ true | false ↦ t ]) (has_named bs x)

pub top_named : (fs : List Frame) (x : Text) (t : List Text) (ns : List (List Text)) → names_of fs ≡ t ∷ ns → top_has fs x ≡ named_in t x
top_named [] x t ns e = cc
top_named (f ∷ fs) x t ns e = let same : names f ≡ t = cc in has_named f x ∙ ap (λ l. named_in l x) same

named_more : (xs ys : List Text) (x : Text) → named_in xs x ≡ false → named_in (xs ++ ys) x ≡ named_in ys x
named_more [] ys x e = refl
named_more (y ∷ xs) ys x e = by_test (bytes_eq y x) (named_more xs ys x) e
  where
    by_test : (t : Bool) → (named_in xs x ≡ false → named_in (xs ++ ys) x ≡ named_in ys x) → elim t [ true ↦ true | false ↦ named_in xs x ] ≡ false → elim t [ true ↦ true | false ↦ named_in (xs ++ ys) x ] ≡ named_in ys x
    by_test true ih e = cc
    by_test false ih e = ih e

pub put_names : (fs : List Frame) (x : Text) (v : ValueTree) → names_of (put_in fs x v) ≡ names_of fs
put_names [] x v = refl
put_names (f ∷ fs) x v = by_test (has f x) (put_names fs x v)
  where
    first : (f : Frame) → names (put_first f x v) ≡ names f
    first [] = refl
    first (b ∷ bs) = here (bytes_eq b.0 x) (first bs)
      where
        here : (t : Bool) → names (put_first bs x v) ≡ names bs → names (elim t as (λ q. Frame) [ true ↦ (b.0, record b.1 { value = Some v }) ∷ bs | false ↦ b ∷ put_first bs x v ]) ≡ b.0 ∷ names bs
        here true ih = refl
        here false ih = ap (λ l. b.0 ∷ l) ih

    by_test : (t : Bool) → names_of (put_in fs x v) ≡ names_of fs → names_of (elim t as (λ q. List Frame) [ true ↦ put_first f x v ∷ fs | false ↦ f ∷ put_in fs x v ]) ≡ names f ∷ names_of fs
    by_test true ih = ap (λ l. l ∷ names_of fs) (first f)
    by_test false ih = ap (λ l. names f ∷ l) ih

-- a flag with this value
abbrev pub flag_variable : Bool → Variable
flag_variable b = record { shape = boolean; value = Some (truth b) }

abbrev Has : Text → Bool → State → Type 0
Has x b s = found_in s.frames x ≡ Some (flag_variable b)

module _ (IsFlag : Text → Type 0) where
  -- the flags that are known, where o were known outside the innermost braces, and ns are the names of the braces around these
  pub record On (o f : Flags) (ns : List (List Text)) (s : State) : Type 0 where
    pub by : (x : Text) (b : Bool) → f x ≡ Some (Some b) → Has x b s
    pub some : (x : Text) → f x ≡ Some None → (b : Bool) × Has x b s
    pub flag : (x : Text) (v : Option Bool) → f x ≡ Some v → IsFlag x
    pub top : List Text
    pub shape : names_of s.frames ≡ top ∷ ns
    pub shut : (x : Text) (v : Option Bool) → o x ≡ Some v → named_in top x ≡ false
    pub outer : (x : Text) (v : Option Bool) → o x ≡ Some v → IsFlag x

  -- what blocks and copies keep
  pub record Keeps (s z : State) : Type 0 where
    pub found : (x : Text) → IsFlag x → found_in z.frames x ≡ found_in s.frames x
    pub more : List Text
    pub clean : (x : Text) → IsFlag x → named_in more x ≡ false
    pub shape : (t : List Text) (ns : List (List Text)) → names_of s.frames ≡ t ∷ ns → names_of z.frames ≡ (more ++ t) ∷ ns

  on_kept : (o f : Flags) (ns : List (List Text)) (s z : State) → On o f ns s → Keeps s z → On o f ns z
  on_kept o f ns s z on k = record {
    by = λ x b e. k.found x (on.flag x (Some b) e) ∙ on.by x b e;
    some = λ x e. let h = on.some x e in (h.0, k.found x (on.flag x None e) ∙ h.1);
    flag = on.flag;
    top = k.more ++ on.top;
    shape = k.shape on.top ns on.shape;
    shut = λ x v e. named_more k.more on.top x (k.clean x (on.outer x v e)) ∙ on.shut x v e;
    outer = on.outer;
  }

  on_push : (o f : Flags) (ns : List (List Text)) (s : State) → On o f ns s → On f f (names_of s.frames) (pushed s)
  on_push o f ns s on = record { by = on.by; some = on.some; flag = on.flag; top = []; shape = refl; shut = λ x v e. refl; outer = on.flag }

  -- g is known behind the braces, in which f was known when they were entered
  on_pop : (o f g : Flags) (ns : List (List Text)) (s z : State) → On o f ns s → ((x : Text) (v : Option Bool) → g x ≡ Some v → (u : Option Bool) × (f x ≡ Some u)) → On f g (names_of s.frames) z → On o g ns (popped z)
  on_pop o f g ns s z outer within on = record {
    by = λ x b e. still x (Some b) e ∙ on.by x b e;
    some = λ x e. let h = on.some x e in (h.0, still x None e ∙ h.1);
    flag = on.flag;
    top = outer.top;
    shape = behind z.frames on.shape ∙ outer.shape;
    shut = outer.shut;
    outer = outer.outer;
  }
    where
      still : (x : Text) (v : Option Bool) → g x ≡ Some v → found_in (popped z).frames x ≡ found_in z.frames x
      still x v e = let u = within x v e in found_popped z x (top_named z.frames x on.top (names_of s.frames) on.shape ∙ on.shut x u.0 u.1)

      behind : (fs : List Frame) → names_of fs ≡ on.top ∷ names_of s.frames → names_of (drop 1 fs) ≡ names_of s.frames
      behind [] e = cc
      behind (f ∷ fs) e = cc

  -- a flag is declared
  on_declare : (o f : Flags) (ns : List (List Text)) (s : State) (x : Text) → IsFlag x → o x ≡ None → On o f ns s → On o (upd f x (Some false)) ns (record s { frames = declared s.frames x (flag_variable false) })
  on_declare o f ns s x is new on = record {
    by = λ y b e. by_way y (Some b) (upd_tells f x y (Some false) (Some b) e) b refl;
    some = λ y e. other_some y (upd_tells f x y (Some false) None e);
    flag = λ y v e. ⊎_elim (λ w. subst IsFlag w.0 is) (λ w. on.flag y v w.1) (upd_tells f x y (Some false) v e);
    top = x ∷ on.top;
    shape = grown s.frames on.shape;
    shut = λ y v e. closed_to y v e;
    outer = on.outer;
  }
    where
      fs' : List Frame
      fs' = declared s.frames x (flag_variable false)

      by_way : (y : Text) (u : Option Bool) → ((x ≡ y) × (Some false ≡ u)) ⊎ ((x ≢ y) × (f y ≡ Some u)) → (b : Bool) → u ≡ Some b → found_in fs' y ≡ Some (flag_variable b)
      by_way y u (inl w) b e = let same : false ≡ b = cc in subst (λ q. found_in fs' q ≡ Some (flag_variable b)) w.0 (found_declared s.frames x (flag_variable false) ∙ ap (λ q. Some (flag_variable q)) same)
      by_way y u (inr w) b e = other_declared s.frames x y (flag_variable false) w.0 ∙ on.by y b (w.1 ∙ ap Some e)

      other_some : (y : Text) → ((x ≡ y) × (Some false ≡ None)) ⊎ ((x ≢ y) × (f y ≡ Some None)) → (b : Bool) × (found_in fs' y ≡ Some (flag_variable b))
      other_some y (inl w) = let never = w.1 in cc
      other_some y (inr w) = let h = on.some y w.1 in (h.0, other_declared s.frames x y (flag_variable false) w.0 ∙ h.1)

      grown : (fs : List Frame) → names_of fs ≡ on.top ∷ ns → names_of (declared fs x (flag_variable false)) ≡ (x ∷ on.top) ∷ ns
      grown [] e = cc
      grown (g ∷ fs) e = let a : names g ≡ on.top = cc in let b : names_of fs ≡ ns = cc in ap (λ l. (x ∷ l) ∷ names_of fs) a ∙ ap (λ l. (x ∷ on.top) ∷ l) b

      closed_to : (y : Text) (v : Option Bool) → o y ≡ Some v → named_in (x ∷ on.top) y ≡ false
      closed_to y v e = rw (other_text x y (λ q. let never : None ≡ Some v = sym new ∙ ap o q ∙ e in cc), named_in) (on.shut y v e)

  -- a flag is set, and so known, or known as little as before
  on_set : (o f : Flags) (ns : List (List Text)) (s : State) (x : Text) (b : Bool) (u : Option Bool) → f x ≡ Some u → (v : Option Bool) → ((v ≡ None) ⊎ (v ≡ Some b)) → On o f ns s → On o (upd f x v) ns (record s { frames = put_in s.frames x (truth b) })
  on_set o f ns s x b u is v how on = record {
    by = λ y c e. by_way y c (upd_tells f x y v (Some c) e);
    some = λ y e. some_way y (upd_tells f x y v None e);
    flag = λ y q e. ⊎_elim (λ w. subst IsFlag w.0 (on.flag x u is)) (λ w. on.flag y q w.1) (upd_tells f x y v q e);
    top = on.top;
    shape = put_names s.frames x (truth b) ∙ on.shape;
    shut = on.shut;
    outer = on.outer;
  }
    where
      there : (q : Option Bool) → f x ≡ Some q → (c : Bool) × Has x c s
      there None e = on.some x e
      there (Some c) e = (c, on.by x c e)

      now : found_in (put_in s.frames x (truth b)) x ≡ Some (flag_variable b)
      now = let h = there u is in found_put s.frames x (flag_variable h.0) (truth b) h.1

      by_way : (y : Text) (c : Bool) → ((x ≡ y) × (v ≡ Some c)) ⊎ ((x ≢ y) × (f y ≡ Some (Some c))) → found_in (put_in s.frames x (truth b)) y ≡ Some (flag_variable c)
      by_way y c (inl w) = ⊎_elim (λ q. let never : None ≡ Some c = sym q ∙ w.1 in cc) (λ q. let same : b ≡ c = (let e : Some b ≡ Some c = sym q ∙ w.1 in cc) in subst (λ z. found_in (put_in s.frames x (truth b)) z ≡ Some (flag_variable c)) w.0 (now ∙ ap (λ t. Some (flag_variable t)) same)) how
      by_way y c (inr w) = other_put s.frames x y (truth b) w.0 ∙ on.by y c w.1

      some_way : (y : Text) → ((x ≡ y) × (v ≡ None)) ⊎ ((x ≢ y) × (f y ≡ Some None)) → (c : Bool) × (found_in (put_in s.frames x (truth b)) y ≡ Some (flag_variable c))
      some_way y (inl w) = (b, subst (λ z. found_in (put_in s.frames x (truth b)) z ≡ Some (flag_variable b)) w.0 now)
      some_way y (inr w) = let h = on.some y w.1 in (h.0, other_put s.frames x y (truth b) w.0 ∙ h.1)

  -- fewer flags are known
  on_sub : (o f g : Flags) (ns : List (List Text)) (s : State) → ((x : Text) (v : Option Bool) → f x ≡ Some v → (g x ≡ Some v) ⊎ ((v ≡ None) × ((u : Option Bool) × (g x ≡ Some u)))) → On o g ns s → On o f ns s
  on_sub o f g ns s sub on = record {
    by = λ x b e. ⊎_elim (λ w. on.by x b w) (λ w. let never = w.0 in cc) (sub x (Some b) e);
    some = λ x e. ⊎_elim (λ w. on.some x w) (λ w. there x w.1.0 w.1.1) (sub x None e);
    flag = λ x v e. ⊎_elim (λ w. on.flag x v w) (λ w. on.flag x w.1.0 w.1.1) (sub x v e);
    top = on.top;
    shape = on.shape;
    shut = on.shut;
    outer = on.outer;
  }
    where
      there : (x : Text) (u : Option Bool) → g x ≡ Some u → (b : Bool) × Has x b s
      there x None e = on.some x e
      there x (Some b) e = (b, on.by x b e)

abbrev pub if_flag : Flags → Option Text → Option Bool → Flags
if_flag f None v = f
if_flag f (Some x) v = upd f x v

module _ (C : Type 0) (step : C → Move C) (p : Program) (calls : Text → List Argument → State → Result (Option Typed × State)) (w : Blocks) (term : ℕ → Term) (falls : ℕ → Option ℕ) (Cases : ℕ → Groups → Type 0) (k : ℕ) (IsFlag : Text → Type 0)
    (Start Stop : ℕ → C → State → Type 0) (Arrives : ℕ → ℕ → C → State → Type 0) (R : C → Option Typed → State → Type 0) where
  abbrev pub runs : List Stmt → State → Run
  runs xs = stmts_run p calls k (stmts_in xs)

  abbrev Goes : C → (C → Type 0) → Type 0
  Goes c P = ((d : C) × (step c ≡ go [] d) × P d) ⊎ (step c ≡ wrong)

  abbrev flagged : State → Text → Bool → State
  flagged s x b = record s { frames = put_in s.frames x (truth b) }

  abbrev unset : State → Text → State
  unset s x = record s { frames = declared s.frames x (flag_variable false) }

  abbrev Plain : (C → State → Type 0) → C → Run → Type 0
  Plain P c o = Follows C step State (Option Typed) P (Never C step State (Option Typed)) (Never C step State (Option Typed)) (NeverGives C step State (Option Typed)) 0 k c o

  abbrev switch_arms : ℕ → Place → Groups → tree.Arms
  switch_arms h pl gs = tree.arms_in (in_order (w.order h) (by_target (groups_text w (inside_switch pl) h gs)))

  -- the labels of the target, and of no other, pass
  abbrev Picks : ℕ → ℕ → (List Label → Bool) → Groups → Type 0
  Picks h t q none = Unit {0}
  Picks h t q (group u labels default x gs) = (q (labels_text w h labels default) ≡ nat_eq t u) × Picks h t q gs

  -- what holds of each block and of each edge by itself
  pub record Facts : Type 0 where
    pub block_ok : (b : ℕ) (c : C) (s : State) → Start b c s → Plain (Stop b) c (runs (w.statements b) s)
    pub copies_ok : (b t : ℕ) (c : C) (s : State) → Arrives b t c s → Plain (Start t) c (runs (w.copies b t) s)
    pub block_keeps : (b : ℕ) (s : State) (t : List Text) (ns : List (List Text)) → names_of s.frames ≡ t ∷ ns → OnOutcome (Keeps IsFlag s) (runs (w.statements b) s)
    pub copies_keep : (b t : ℕ) (s : State) (top : List Text) (ns : List (List Text)) → names_of s.frames ≡ top ∷ ns → OnOutcome (Keeps IsFlag s) (runs (w.copies b t) s)
    pub jump_ok : (b t : ℕ) (c : C) (s : State) → term b ≡ jump t → Stop b c s → Goes c (λ d. Arrives b t d s)
    pub branch_ok : (b t u : ℕ) (c : C) (s : State) → term b ≡ branch t u → Stop b c s
        → ((evaluate p calls (w.condition b) s ≡ got [] (typed boolean (truth true), s)) × Goes c (λ d. Arrives b t d s))
        ⊎ (((evaluate p calls (w.condition b) s ≡ got [] (typed boolean (truth false), s)) × Goes c (λ d. Arrives b u d s)) ⊎ (step c ≡ wrong))
    pub table_ok : (h : ℕ) (gs : Groups) (pl : Place) (c : C) (s : State) → term h ≡ table → Cases h gs → Stop h c s
        → (step c ≡ wrong) ⊎ ((t : ℕ) × (q : List Label → Bool) × In t (targets gs) × Picks h t q gs × (stmt_run p calls k (tree.switch (w.condition h) (switch_arms h pl gs)) s ≡ behind_switch (arms_run p calls k (switch_arms h pl gs) q s)) × Goes c (λ d. Arrives h t d s))
    pub fallen_copies : (h t u : ℕ) → falls t ≡ Some u → w.fell u ≡ None → w.copies h u ≡ []
    pub return_ok : (b : ℕ) (c : C) (s : State) → term b ≡ return → Stop b c s → Follows C step State (Option Typed) (Never C step State (Option Typed)) (Never C step State (Option Typed)) (Never C step State (Option Typed)) (λ d r z. R d r z × (names_of z.frames ≡ names_of s.frames)) 0 k c (stmt_run p calls k (give (w.value b)) s)
    pub lost_ok : (b : ℕ) (c : C) (s : State) → term b ≡ lost → Stop b c s → step c ≡ wrong
    pub again_flag : (h : ℕ) (x : Text) → w.again h ≡ Some x → IsFlag x
    pub leave_flag : (h : ℕ) (x : Text) → w.leave h ≡ Some x → IsFlag x
    pub fell_flag : (t : ℕ) (x : Text) → w.fell t ≡ Some x → IsFlag x
    pub start_declares : (t : ℕ) (c : C) (s : State) (x : Text) → IsFlag x → Start t c s → Start t c (unset s x)
    pub stop_declares : (t : ℕ) (c : C) (s : State) (x : Text) → IsFlag x → Stop t c s → Stop t c (unset s x)
    pub start_puts : (t : ℕ) (c : C) (s : State) (x : Text) (b : Bool) → IsFlag x → Start t c s → Start t c (flagged s x b)
    pub start_enters : (t : ℕ) (c : C) (s : State) → Start t c s → Start t c (pushed s)
    pub arrives_enters : (b t : ℕ) (c : C) (s : State) → Arrives b t c s → Arrives b t c (pushed s)
    pub start_exits : (t : ℕ) (c : C) (s : State) (x y : List Text) (ns : List (List Text)) → names_of s.frames ≡ x ∷ y ∷ ns → Start t c s → Start t c (popped s)
    pub returns_exits : (c : C) (r : Option Typed) (s : State) (x y : List Text) (ns : List (List Text)) → names_of s.frames ≡ x ∷ y ∷ ns → R c r s → R c r (popped s)

  abbrev K : Flags → Flags → List (List Text) → State → Type 0
  K = On IsFlag

  -- at a block, if there is one
  pub record At (o f : Flags) (ns : List (List Text)) (m : Option ℕ) (d : C) (s : State) : Type 0 where
    pub to : ℕ
    pub is : m ≡ Some to
    pub start : Start to d s
    pub on : K o f ns s

  -- at a case target that was fallen into
  pub record Fell (o f : Flags) (ns : List (List Text)) (m : Option ℕ) (d : C) (s : State) : Type 0 where
    pub to : ℕ
    pub is : m ≡ Some to
    pub start : Start to d s
    pub on : K o f ns s
    pub set : (x : Text) → w.fell to ≡ Some x → Has x true s

  -- behind a loop that is left through a switch
  pub record Out (o f : Flags) (ns : List (List Text)) (m : Option (Text × ℕ)) (d : C) (s : State) : Type 0 where
    pub flag : Text
    pub to : ℕ
    pub is : m ≡ Some (flag, to)
    pub start : Start to d s
    pub set : Has flag true s
    pub on : K o (upd f flag None) ns s

  abbrev pub Next : Flags → Flags → List (List Text) → Ways → C → State → Type 0
  Next o f ns v d s = At o f ns v.normal d s ⊎ Fell o f ns v.fall d s

  abbrev pub Left : Flags → Flags → List (List Text) → Ways → C → State → Type 0
  Left o f ns v d s = At o f ns v.leave d s ⊎ Out o f ns v.out d s

  -- the machine follows, by these ways out; behind a return nothing is told of braces
  pub record Ended (ns : List (List Text)) (d : C) (r : Option Typed) (s : State) : Type 0 where
    pub is : R d r s
    pub top : List Text
    pub shape : names_of s.frames ≡ top ∷ ns

  abbrev pub F : Flags → Flags → List (List Text) → Ways → ℕ → C → Run → Type 0
  F o f ns v u c x = Follows C step State (Option Typed) (Next o f ns v) (Left o f ns v) (At o f ns v.again) (Ended ns) u k c x

  -- what is known of the flags of the ways out
  pub record Ready (f : Flags) (v : Ways) : Type 0 where
    pub out : (l : Text) (t : ℕ) → v.out ≡ Some (l, t) → f l ≡ Some (Some false)
    pub fall : (t : ℕ) (x : Text) → v.fall ≡ Some t → w.fell t ≡ Some x → f x ≡ Some None

  abbrev pub Within : Flags → Flags → Type 0
  Within o f = (x : Text) (v : Option Bool) → o x ≡ Some v → (u : Option Bool) × (f x ≡ Some u)

  abbrev pub Apart : Flags → Region → Type 0
  Apart f r = (x : Text) (v : Option Bool) → f x ≡ Some v → Fresh w term falls Cases x r

  abbrev pub weight : Region → ℕ
  weight (ends e) = 0
  weight (item (plain b) r) = 1
  weight (item (choose h x y) r) = 1
  weight (item (loose h x y) r) = 1
  weight (item (Rattle.structure_recover.specs.Tree.loop h x) r) = 0
  weight (item (loop_on h z x) r) = 0
  weight (item (switch h gs) r) = 1

  weight_is : (r : Region) → IsBlock r → weight r ≡ 1
  weight_is (ends e) h = absurd h
  weight_is (item (plain b) r) h = refl
  weight_is (item (choose h x y) r) i = refl
  weight_is (item (loose h x y) r) i = refl
  weight_is (item (Rattle.structure_recover.specs.Tree.loop h x) r) i = absurd i
  weight_is (item (loop_on h z x) r) i = absurd i
  weight_is (item (switch h gs) r) i = refl

  -- statements of flags
  set_run : (s : State) (x : Text) (b c : Bool) → Has x c s → stmt_run p calls k (set_flag x b) s ≡ normal [] (flagged s x b)
  set_run s x b c h = rw (h, in_found s.frames x (flag_variable c) h, named, with_value) refl

  test_run : (s : State) (x : Text) (b : Bool) → Has x b s → evaluate p calls (name x) s ≡ got [] (typed boolean (truth b), s)
  test_run s x b h = rw (h, named) refl

  abbrev flip : Bool → Bool
  flip true = false
  flip false = true

  not_run : (s : State) (x : Text) (b : Bool) → Has x b s → evaluate p calls (not (name x)) s ≡ got [] (typed boolean (truth (flip b)), s)
  not_run s x true h = rw (h, named) refl
  not_run s x false h = rw (h, named) refl

  abbrev by_test : Bool → Run → Run → Run
  by_test b x y = elim b [ true ↦ x | false ↦ y ]

  when_run : (e : Expr) (a : Stmts) (s : State) (b : Bool) → evaluate p calls e s ≡ got [] (typed boolean (truth b), s) → stmt_run p calls k (when e a) s ≡ by_test b (in_braces (stmts_run p calls k a) s) (normal [] s)
  when_run e a s b h = rw h (begun_none _ ∙ begun_none _)

  either_run : (e : Expr) (a z : Stmts) (s : State) (b : Bool) → evaluate p calls e s ≡ got [] (typed boolean (truth b), s) → stmt_run p calls k (either e a z) s ≡ by_test b (in_braces (stmts_run p calls k a) s) (in_braces (stmts_run p calls k z) s)
  either_run e a z s b h = rw h (begun_none _ ∙ begun_none _)

  conditional_run : (e : Expr) (xs ys : List Stmt) (s : State) (b : Bool) → evaluate p calls e s ≡ got [] (typed boolean (truth b), s) → stmt_run p calls k (conditional e xs ys) s ≡ by_test b (in_braces (runs xs) s) (in_braces (runs ys) s)
  conditional_run e xs [] s true h = when_run e (stmts_in xs) s true h
  conditional_run e xs [] s false h = when_run e (stmts_in xs) s false h
  conditional_run e xs (y ∷ ys) s b h = either_run e (stmts_in xs) (stmts_in (y ∷ ys)) s b h

  -- a part with one way out, and what holds behind it
  and_kept : (P : C → State → Type 0) (I : State → Type 0) (c : C) (o : Run) → OnOutcome I o → Plain P c o → Plain (λ d z. P d z × I z) c o
  and_kept P I c (normal e s) i (inl l) = inl (record { to = l.to; comes = l.comes; holds = (l.holds, i) })
  and_kept P I c (breaks e s) i (inl l) = absurd l.holds
  and_kept P I c (continues e s) i (inl l) = absurd l.holds
  and_kept P I c (returns e r s) i (inl l) = absurd l.holds
  and_kept P I c (cut e) i (inl l) = inl l
  and_kept P I c (waits e) i (inl l) = inl l
  and_kept P I c (stuck e) i (inl l) = absurd l
  and_kept P I c (normal e s) i (inr b) = inr b
  and_kept P I c (breaks e s) i (inr b) = inr b
  and_kept P I c (continues e s) i (inr b) = inr b
  and_kept P I c (returns e r s) i (inr b) = inr b
  and_kept P I c (cut e) i (inr b) = inr b
  and_kept P I c (waits e) i (inr b) = inr b
  and_kept P I c (stuck e) i (inr b) = inr b

  abbrev pub G : (N L A : C → State → Type 0) → (C → Option Typed → State → Type 0) → ℕ → C → Run → Type 0
  G N L A Q u c x = Follows C step State (Option Typed) N L A Q u k c x

  -- other names for the ways out
  mapped : (N L A N' L' A' : C → State → Type 0) (Q Q' : C → Option Typed → State → Type 0) (u : ℕ) (c : C) (o : Run) → ((d : C) (s : State) → N d s → N' d s) → ((d : C) (s : State) → L d s → L' d s) → ((d : C) (s : State) → A d s → A' d s) → ((d : C) (r : Option Typed) (s : State) → Q d r s → Q' d r s) → G N L A Q u c o → G N' L' A' Q' u c o
  mapped N L A N' L' A' Q Q' u c (normal e s) n l a q (inl x) = inl (record { to = x.to; comes = x.comes; holds = n x.to s x.holds })
  mapped N L A N' L' A' Q Q' u c (breaks e s) n l a q (inl x) = inl (record { to = x.to; comes = x.comes; holds = l x.to s x.holds })
  mapped N L A N' L' A' Q Q' u c (continues e s) n l a q (inl x) = inl (record { to = x.to; comes = x.comes; holds = a x.to s x.holds })
  mapped N L A N' L' A' Q Q' u c (returns e r s) n l a q (inl x) = inl (record { to = x.to; comes = x.comes; holds = q x.to r s x.holds })
  mapped N L A N' L' A' Q Q' u c (cut e) n l a q (inl x) = inl x
  mapped N L A N' L' A' Q Q' u c (waits e) n l a q (inl x) = inl x
  mapped N L A N' L' A' Q Q' u c (stuck e) n l a q (inl x) = absurd x
  mapped N L A N' L' A' Q Q' u c (normal e s) n l a q (inr b) = inr b
  mapped N L A N' L' A' Q Q' u c (breaks e s) n l a q (inr b) = inr b
  mapped N L A N' L' A' Q Q' u c (continues e s) n l a q (inr b) = inr b
  mapped N L A N' L' A' Q Q' u c (returns e r s) n l a q (inr b) = inr b
  mapped N L A N' L' A' Q Q' u c (cut e) n l a q (inr b) = inr b
  mapped N L A N' L' A' Q Q' u c (waits e) n l a q (inr b) = inr b
  mapped N L A N' L' A' Q Q' u c (stuck e) n l a q (inr b) = inr b

  -- behind braces
  closing : (N L A N' L' A' : C → State → Type 0) (Q Q' : C → Option Typed → State → Type 0) (u : ℕ) (c : C) (o : Run) → ((d : C) (s : State) → N d s → N' d (popped s)) → ((d : C) (s : State) → L d s → L' d (popped s)) → ((d : C) (s : State) → A d s → A' d (popped s)) → ((d : C) (r : Option Typed) (s : State) → Q d r s → Q' d r (popped s)) → G N L A Q u c o → G N' L' A' Q' u c (closed o)
  closing N L A N' L' A' Q Q' u c (normal e s) n l a q (inl x) = inl (record { to = x.to; comes = x.comes; holds = n x.to s x.holds })
  closing N L A N' L' A' Q Q' u c (breaks e s) n l a q (inl x) = inl (record { to = x.to; comes = x.comes; holds = l x.to s x.holds })
  closing N L A N' L' A' Q Q' u c (continues e s) n l a q (inl x) = inl (record { to = x.to; comes = x.comes; holds = a x.to s x.holds })
  closing N L A N' L' A' Q Q' u c (returns e r s) n l a q (inl x) = inl (record { to = x.to; comes = x.comes; holds = q x.to r s x.holds })
  closing N L A N' L' A' Q Q' u c (cut e) n l a q (inl x) = inl x
  closing N L A N' L' A' Q Q' u c (waits e) n l a q (inl x) = inl x
  closing N L A N' L' A' Q Q' u c (stuck e) n l a q (inl x) = absurd x
  closing N L A N' L' A' Q Q' u c (normal e s) n l a q (inr b) = inr b
  closing N L A N' L' A' Q Q' u c (breaks e s) n l a q (inr b) = inr b
  closing N L A N' L' A' Q Q' u c (continues e s) n l a q (inr b) = inr b
  closing N L A N' L' A' Q Q' u c (returns e r s) n l a q (inr b) = inr b
  closing N L A N' L' A' Q Q' u c (cut e) n l a q (inr b) = inr b
  closing N L A N' L' A' Q Q' u c (waits e) n l a q (inr b) = inr b
  closing N L A N' L' A' Q Q' u c (stuck e) n l a q (inr b) = inr b

  module _ (ok : Facts) where
    -- what is said inside braces, said behind them; fo is known where they are entered, and fi where they are left
    braces_follow : (o fo fi : Flags) (ns : List (List Text)) (v : Ways) (u : ℕ) (c : C) (s : State) (g : State → Run) → K o fo ns s → Within fi fo → Ready fi v → F fo fi (names_of s.frames) v u c (g (pushed s)) → F o fi ns v u c (in_braces g s)
    braces_follow o fo fi ns v u c s g on within ready x =
        closing (Next fo fi ms v) (Left fo fi ms v) (At fo fi ms v.again) (Next o fi ns v) (Left o fi ns v) (At o fi ns v.again) (Ended ms) (Ended ns) u c (g (pushed s))
        (λ d z h. ⊎_elim (λ a. inl (at_pop v.normal d z a)) (λ a. inr (fell_pop v.fall d z refl a)) h)
        (λ d z h. ⊎_elim (λ a. inl (at_pop v.leave d z a)) (λ a. inr (out_pop d z a)) h)
        (λ d z h. at_pop v.again d z h)
        (λ d r z h. ended_pop d r z h) x
      where
        ms : List (List Text)
        ms = names_of s.frames

        two : (z : State) (t : List Text) → names_of z.frames ≡ t ∷ ms → names_of z.frames ≡ t ∷ on.top ∷ ns
        two z t e = e ∙ ap (λ l. t ∷ l) on.shape

        at_pop : (m : Option ℕ) (d : C) (z : State) → At fo fi ms m d z → At o fi ns m d (popped z)
        at_pop m d z a = record { to = a.to; is = a.is; start = ok.start_exits a.to d z a.on.top on.top ns (two z a.on.top a.on.shape) a.start; on = on_pop IsFlag o fo fi ns s z on within a.on }

        still : (z : State) (x : Text) (b : Bool) (g : Flags) (inner : K fo g ms z) → ((u : Option Bool) × (fo x ≡ Some u)) → Has x b z → Has x b (popped z)
        still z x b g inner e h = found_popped z x (top_named z.frames x inner.top ms inner.shape ∙ inner.shut x e.0 e.1) ∙ h

        fell_pop : (m : Option ℕ) (d : C) (z : State) → v.fall ≡ m → Fell fo fi ms m d z → Fell o fi ns m d (popped z)
        fell_pop m d z e a = record { to = a.to; is = a.is; start = ok.start_exits a.to d z a.on.top on.top ns (two z a.on.top a.on.shape) a.start; on = on_pop IsFlag o fo fi ns s z on within a.on; set = λ x h. still z x true fi a.on (within x None (ready.fall a.to x (e ∙ a.is) h)) (a.set x h) }

        forgotten : (l : Text) (x : Text) (v : Option Bool) → ((u : Option Bool) × (fo l ≡ Some u)) → upd fi l None x ≡ Some v → (u : Option Bool) × (fo x ≡ Some u)
        forgotten l x v known e = ⊎_elim (λ q. subst (λ z. (u : Option Bool) × (fo z ≡ Some u)) q.0 known) (λ q. within x v q.1) (upd_tells fi l x None v e)

        out_pop : (d : C) (z : State) → Out fo fi ms v.out d z → Out o fi ns v.out d (popped z)
        out_pop d z a =
            let known : (u : Option Bool) × (fo a.flag ≡ Some u) = within a.flag (Some false) (ready.out a.flag a.to a.is) in
            record { flag = a.flag; to = a.to; is = a.is; start = ok.start_exits a.to d z a.on.top on.top ns (two z a.on.top a.on.shape) a.start; set = still z a.flag true (upd fi a.flag None) a.on known a.set; on = on_pop IsFlag o fo (upd fi a.flag None) ns s z on (λ x v e. forgotten a.flag x v known e) a.on }

        ended_pop : (d : C) (r : Option Typed) (z : State) → Ended ms d r z → Ended ns d r (popped z)
        ended_pop d r z a = record { is = ok.returns_exits d r z a.top on.top ns (two z a.top a.shape) a.is; top = on.top; shape = behind z.frames a.shape ∙ on.shape }
          where
            behind : (fs : List Frame) → names_of fs ≡ a.top ∷ ms → names_of (drop 1 fs) ≡ ms
            behind [] e = cc
            behind (q ∷ fs) e = cc

    append : (xs ys : List Stmt) (s : State) → runs (xs ++ ys) s ≡ then_do (runs xs s) (runs ys)
    append xs ys s = run_append p calls k xs ys s

    module _ (N L A : C → State → Type 0) (Q : C → Option Typed → State → Type 0) where
      plain_then : (P : C → State → Type 0) (u : ℕ) (c : C) (o : Run) (g : State → Run) → Plain P c o → ((d : C) (z : State) → P d z → G N L A Q u d (g z)) → G N L A Q u c (then_do o g)
      plain_then P u c o g h n = part_then C step State (Option Typed) N L A Q P 0 u k c g o (mapped P (Never C step State (Option Typed)) (Never C step State (Option Typed)) P L (Never C step State (Option Typed)) (NeverGives C step State (Option Typed)) Q 0 c o (λ d z x. x) (λ d z x. absurd x) (λ d z x. x) (λ d r z x. absurd x) h) n

      block_then : (o f : Flags) (ns : List (List Text)) (u b : ℕ) (c : C) (s : State) (xs : List Stmt) → Start b c s → K o f ns s → ((d : C) (z : State) → Stop b d z → K o f ns z → G N L A Q u d (runs xs z)) → G N L A Q u c (runs (w.statements b ++ xs) s)
      block_then o f ns u b c s xs start on n =
          subst (G N L A Q u c) (sym (append (w.statements b) xs s))
          (plain_then (λ d z. Stop b d z × Keeps IsFlag s z) u c (runs (w.statements b) s) (runs xs)
          (and_kept (Stop b) (Keeps IsFlag s) c (runs (w.statements b) s) (ok.block_keeps b s on.top ns on.shape) (ok.block_ok b c s start))
          (λ d z h. n d z h.0 (on_kept IsFlag o f ns s z on h.1)))

      copies_then : (o f : Flags) (ns : List (List Text)) (u b t : ℕ) (c : C) (s : State) (xs : List Stmt) → Arrives b t c s → K o f ns s → ((d : C) (z : State) → Start t d z → K o f ns z → G N L A Q u d (runs xs z)) → G N L A Q u c (runs (w.copies b t ++ xs) s)
      copies_then o f ns u b t c s xs arrives on n =
          subst (G N L A Q u c) (sym (append (w.copies b t) xs s))
          (plain_then (λ d z. Start t d z × Keeps IsFlag s z) u c (runs (w.copies b t) s) (runs xs)
          (and_kept (Start t) (Keeps IsFlag s) c (runs (w.copies b t) s) (ok.copies_keep b t s on.top ns on.shape) (ok.copies_ok b t c s arrives))
          (λ d z h. n d z h.0 (on_kept IsFlag o f ns s z on h.1)))

      after_step : (u : ℕ) (c d : C) (x : Run) → step c ≡ go [] d → G N L A Q u d x → G N L A Q 1 c x
      after_step u c d x e h = subst (G N L A Q 1 c) (begun_none x) (weaker C step State (Option Typed) N L A Q (1 + u) 1 k c (begun [] x) (omega arith) (after_coming C step State (Option Typed) N L A Q 1 u k k c d [] x (omega arith) (one_step C step c d [] e) h))

      after_going : (u : ℕ) (c : C) (x : Run) (P : C → Type 0) → Goes c P → ((d : C) → P d → G N L A Q u d x) → G N L A Q 1 c x
      after_going u c x P (inl g) n = after_step u c g.0 x g.1 (n g.0 g.2)
      after_going u c x P (inr e) n = inr (fails_now C step c _ e)

      -- a statement that does nothing else, and what follows
      normal_then : (u : ℕ) (c : C) (x : Stmt) (xs : List Stmt) (s z : State) → stmt_run p calls k x s ≡ normal [] z → G N L A Q u c (runs xs z) → G N L A Q u c (runs (x ∷ xs) s)
      normal_then u c x xs s z e h = subst (λ q. G N L A Q u c (then_do q (runs xs))) (sym e) (subst (G N L A Q u c) (sym (begun_none (runs xs z))) h)

      -- a last statement
      last_then : (u : ℕ) (c : C) (x : Stmt) (s : State) → G N L A Q u c (stmt_run p calls k x s) → G N L A Q u c (runs (x ∷ []) s)
      last_then u c x s h = stmt_then C step State (Option Typed) N L A Q N u 0 k c (runs []) (stmt_run p calls k x s) h (λ d z n. inl (record { to = d; comes = stays C step d; holds = n }))

      -- flags are declared where a block begins
      flags_then : (o f : Flags) (ns : List (List Text)) (u t : ℕ) (q : Option Text) (c : C) (s : State) (xs : List Stmt) → ((x : Text) → q ≡ Some x → IsFlag x) → ((x : Text) → q ≡ Some x → o x ≡ None) → Start t c s → K o f ns s
          → ((z : State) → Start t c z → K o (if_flag f q (Some false)) ns z → G N L A Q u c (runs xs z)) → G N L A Q u c (runs (flags (λ x. declare_flag x ∷ []) q ++ xs) s)
      flags_then o f ns u t None c s xs is new start on n = n s start on
      flags_then o f ns u t (Some x) c s xs is new start on n =
          normal_then u c (declare_flag x) xs s (unset s x) refl (n (unset s x) (ok.start_declares t c s x (is x refl) start) (on_declare IsFlag o f ns s x (is x refl) (new x refl) on))

    abbrev pub rest_text : Place → Region → List Stmt
    rest_text pl (ends (Edge b t kind)) = edge_text w pl t kind
    rest_text pl (ends e) = []
    rest_text pl (item i r) = region_text w pl (item i r)

    rest_is : (pl : Place) (r : Region) → IsItem r → rest_text pl r ≡ region_text w pl r
    rest_is pl (ends e) h = absurd h
    rest_is pl (item i r) h = refl

    -- an edge, and the region to which it leads
    arrive_then : (N L A : C → State → Type 0) (Q : C → Option Typed → State → Type 0) (o f : Flags) (ns : List (List Text)) (u b t : ℕ) (pl : Place) (x : Region) (c : C) (s : State) → IsEdge b t x → Arrives b t c s → K o f ns s
        → ((d : C) (z : State) → Start t d z → K o f ns z → G N L A Q u d (runs (rest_text pl x) z)) → G N L A Q u c (runs (entering w b t x ++ region_text w pl x) s)
    arrive_then N L A Q o f ns u b t pl (ends (Edge a e kind)) c s h arrives on n =
        subst (λ q. G N L A Q u c (runs (w.copies q e ++ edge_text w pl e kind) s)) (sym h.0)
        (subst (λ q. G N L A Q u c (runs (w.copies b q ++ edge_text w pl q kind) s)) (sym h.1)
        (copies_then N L A Q o f ns u b t c s (edge_text w pl t kind) arrives on (subst (λ q. (d : C) (z : State) → Start t d z → K o f ns z → G N L A Q u d (runs (edge_text w pl q kind) z)) h.1 n)))
    arrive_then N L A Q o f ns u b t pl (ends (Return e)) c s h arrives on n = absurd h
    arrive_then N L A Q o f ns u b t pl (ends (Lost e)) c s h arrives on n = absurd h
    arrive_then N L A Q o f ns u b t pl (ends Closed) c s h arrives on n = absurd h
    arrive_then N L A Q o f ns u b t pl (item i r) c s h arrives on n = copies_then N L A Q o f ns u b t c s (region_text w pl (item i r)) arrives on n

    -- what follows an item, where it is reached
    rest_then : (o f : Flags) (ns : List (List Text)) (v : Ways) (m : Option ℕ) (pl : Place) (r : Region) (u : ℕ) (xs : List Stmt) (c : C) (s : State) → G (At o f ns m) (Left o f ns v) (At o f ns v.again) (Ended ns) u c (runs xs s)
        → if_there m (λ q. IsItem r × Leads w term falls Cases r pl v q) → ((t : ℕ) → Leads w term falls Cases r pl v t → (d : C) (z : State) → Start t d z → K o f ns z → F o f ns v (weight r) d (runs (rest_text pl r) z)) → F o f ns v u c (runs (xs ++ region_text w pl r) s)
    rest_then o f ns v m pl r u xs c s h reach ih =
        subst (F o f ns v u c) (sym (append xs (region_text w pl r) s))
        (stmt_then C step State (Option Typed) (Next o f ns v) (Left o f ns v) (At o f ns v.again) (Ended ns) (At o f ns m) u 0 k c (runs (region_text w pl r)) (runs xs s) h (λ d z at.
        let there : IsItem r × Leads w term falls Cases r pl v at.to = subst (λ q. if_there q (λ q. IsItem r × Leads w term falls Cases r pl v q)) at.is reach in
        weaker C step State (Option Typed) (Next o f ns v) (Left o f ns v) (At o f ns v.again) (Ended ns) (weight r) 0 k d (runs (region_text w pl r) z) (omega arith)
        (subst (λ l. F o f ns v (weight r) d (runs l z)) (rest_is pl r there.0) (ih at.to there.1 d z at.start at.on))))

    -- a conditional, from where its block ends
    branch_then : (o f : Flags) (ns : List (List Text)) (v : Ways) (b t e : ℕ) (pl : Place) (x y : Region) (c : C) (s : State) → Ready f v → term b ≡ branch t e → w.target b 0 ≡ t → w.target b 1 ≡ e → IsEdge b t x → IsEdge b e y → Stop b c s → K o f ns s
        → ((d : C) (z : State) → Start t d z → K f f (names_of s.frames) z → F f f (names_of s.frames) v (weight x) d (runs (rest_text pl x) z))
        → ((d : C) (z : State) → Start e d z → K f f (names_of s.frames) z → F f f (names_of s.frames) v (weight y) d (runs (rest_text pl y) z))
        → F o f ns v 1 c (stmt_run p calls k (conditional (w.condition b) (entering w b (w.target b 0) x ++ region_text w pl x) (entering w b (w.target b 1) y ++ region_text w pl y)) s)
    branch_then o f ns v b t e pl x y c s ready is to0 to1 ex ey at on fx fy = by_way (ok.branch_ok b t e c s is at)
      where
        xs : List Stmt
        xs = entering w b (w.target b 0) x ++ region_text w pl x

        ys : List Stmt
        ys = entering w b (w.target b 1) y ++ region_text w pl y

        Goal : Run → Type 0
        Goal q = F o f ns v 1 c q

        enter : (g : ℕ) (r : Region) (q : ℕ) → IsEdge b q r → (a : ℕ) → a ≡ q → ((d : C) (z : State) → Start q d z → K f f (names_of s.frames) z → F f f (names_of s.frames) v (weight r) d (runs (rest_text pl r) z)) → (d : C) → Arrives b q d s → F o f ns v (weight r) d (in_braces (runs (entering w b a r ++ region_text w pl r)) s)
        enter g r q er a same fr d arrives =
            subst (λ j. F o f ns v (weight r) d (in_braces (runs (entering w b j r ++ region_text w pl r)) s)) (sym same)
            (braces_follow o f f ns v (weight r) d s (runs (entering w b q r ++ region_text w pl r)) on (λ x u e. (u, e)) ready
            (arrive_then (Next f f (names_of s.frames) v) (Left f f (names_of s.frames) v) (At f f (names_of s.frames) v.again) (Ended (names_of s.frames)) f f (names_of s.frames) (weight r) b q pl r d (pushed s) er (ok.arrives_enters b q d s arrives) (on_push IsFlag o f ns s on) fr))

        by_way : ((evaluate p calls (w.condition b) s ≡ got [] (typed boolean (truth true), s)) × Goes c (λ d. Arrives b t d s)) ⊎ (((evaluate p calls (w.condition b) s ≡ got [] (typed boolean (truth false), s)) × Goes c (λ d. Arrives b e d s)) ⊎ (step c ≡ wrong)) → Goal (stmt_run p calls k (conditional (w.condition b) xs ys) s)
        by_way (inl g) = subst Goal (sym (conditional_run (w.condition b) xs ys s true g.0)) (after_going (Next o f ns v) (Left o f ns v) (At o f ns v.again) (Ended ns) (weight x) c (in_braces (runs xs) s) (λ d. Arrives b t d s) g.1 (enter 0 x t ex (w.target b 0) to0 fx))
        by_way (inr (inl g)) = subst Goal (sym (conditional_run (w.condition b) xs ys s false g.0)) (after_going (Next o f ns v) (Left o f ns v) (At o f ns v.again) (Ended ns) (weight y) c (in_braces (runs ys) s) (λ d. Arrives b e d s) g.1 (enter 1 y e ey (w.target b 1) to1 fy))
        by_way (inr (inr q)) = inr (fails_now C step c _ q)

    at_same : (o f : Flags) (ns : List (List Text)) (m : Option ℕ) (t : ℕ) (d : C) (z : State) → m ≡ Some t → Start t d z → K o f ns z → At o f ns m d z
    at_same o f ns m t d z is start on = record { to = t; is = is; start = start; on = on }

    lands : (P : C → Type 0) (c : C) → P c → Lands C step 0 c [] P
    lands P c h = record { to = c; comes = stays C step c; holds = h }

    edge_follows : (kind : EdgeKind) (pl : Place) (o f : Flags) (ns : List (List Text)) (v : Ways) (t : ℕ) (c : C) (s : State) → Ready f v → EdgeLeads w term falls Cases v pl t kind → Start t c s → K o f ns s → F o f ns v 0 c (runs (edge_text w pl t kind) s)
    edge_follows Enter pl o f ns v t c s ready h start on = absurd h
    edge_follows Merge pl o f ns v t c s ready h start on = inl (lands (λ d. Next o f ns v d s) c (inl (at_same o f ns v.normal t c s h start on)))
    edge_follows SwitchBreak pl o f ns v t c s ready h start on = inl (lands (λ d. Left o f ns v d s) c (inl (at_same o f ns v.leave t c s h start on)))
    edge_follows Break pl o f ns v t c s ready h start on = by_switch pl.in_switch pl.in_loop h
      where
        flagged_break : (l : Text) → v.out ≡ Some (l, t) → F o f ns v 0 c (runs (set_flag l true ∷ tree.leave ∷ []) s)
        flagged_break l is =
            let known = ready.out l t is in
            let was : Has l false s = on.by l false known in
            normal_then (Next o f ns v) (Left o f ns v) (At o f ns v.again) (Ended ns) 0 c (set_flag l true) (tree.leave ∷ []) s (flagged s l true) (set_run s l true false was)
            (inl (lands (λ d. Left o f ns v d (flagged s l true)) c (inr (record { flag = l; to = t; is = is; start = ok.start_puts t c s l true (on.flag l (Some false) known) start; set = found_put s.frames l (flag_variable false) (truth true) was; on = on_set IsFlag o f ns s l true (Some false) known None (inl refl) on }))))

        by_flag : (q : Option Text) (l : Text) → q ≡ Some l → v.out ≡ Some (l, t) → F o f ns v 0 c (runs (flags (λ x. set_flag x true ∷ []) q ++ (tree.leave ∷ [])) s)
        by_flag None l e is = none_some e
        by_flag (Some x) l e is = flagged_break x (is ∙ ap (λ y. Some (y, t)) (sym (same_Some _ _ e)))

        by_loop : (q : Option ℕ) (h : ℕ) (l : Text) → q ≡ Some h → w.leave h ≡ Some l → v.out ≡ Some (l, t) → F o f ns v 0 c (runs (leave_loop w q ++ (tree.leave ∷ [])) s)
        by_loop None h l e g is = none_some e
        by_loop (Some j) h l e g is = by_flag (w.leave j) l (ap w.leave (same_Some _ _ e) ∙ g) is

        by_switch : (b : Bool) (q : Option ℕ) → BreakLeads w term falls Cases v q t b → F o f ns v 0 c (runs ((if b then leave_loop w q else []) ++ (tree.leave ∷ [])) s)
        by_switch true q g = by_loop q g.0 g.1 g.2 g.3 g.4
        by_switch false q g = inl (lands (λ d. Left o f ns v d s) c (inl (at_same o f ns v.leave t c s g start on)))
    edge_follows Continue pl o f ns v t c s ready h start on = inl (lands (λ d. At o f ns v.again d s) c (at_same o f ns v.again t c s h start on))
    edge_follows Back pl o f ns v t c s ready h start on = by_part pl.continues h
      where
        by_part : (b : Bool) → BackLeads w term falls Cases v t b → F o f ns v 0 c (runs (if b then [] else (tree.again ∷ [])) s)
        by_part true g = inl (lands (λ d. Next o f ns v d s) c (inl (at_same o f ns v.normal t c s g start on)))
        by_part false g = inl (lands (λ d. At o f ns v.again d s) c (at_same o f ns v.again t c s g start on))
    edge_follows Fall pl o f ns v t c s ready h start on = by_flag (w.fell t) refl
      where
        by_flag : (q : Option Text) → w.fell t ≡ q → F o f ns v 0 c (runs (flags (λ x. set_flag x true ∷ []) q) s)
        by_flag None e = inl (lands (λ d. Next o f ns v d s) c (inr (record { to = t; is = h; start = start; on = on; set = λ x g. none_some (sym e ∙ g) })))
        by_flag (Some x) e =
            let known = ready.fall t x h e in
            let was = on.some x known in
            let set = found_put s.frames x (flag_variable was.0) (truth true) was.1 in
            let now : K o f ns (flagged s x true) = on_sub IsFlag o f (upd f x None) ns (flagged s x true) (λ y u g. inl (same y u g)) (on_set IsFlag o f ns s x true None known None (inl refl) on) in
            normal_then (Next o f ns v) (Left o f ns v) (At o f ns v.again) (Ended ns) 0 c (set_flag x true) [] s (flagged s x true) (set_run s x true was.0 was.1)
            (inl (lands (λ d. Next o f ns v d (flagged s x true)) c (inr (record { to = t; is = h; start = ok.start_puts t c s x true (on.flag x None known) start; on = now; set = λ y g. subst (λ j. Has j true (flagged s x true)) (same_Some _ _ (sym e ∙ g)) set }))))
          where
            same : (y : Text) (u : Option Bool) → f y ≡ Some u → upd f x None y ≡ Some u
            same y u g = by_name (cases_Bool (bytes_eq x y))
              where
                by_name : (bytes_eq x y ≡ true) ⊎ (bytes_eq x y ≡ false) → upd f x None y ≡ Some u
                by_name (inl is) = let eq = same_text x y is in subst (λ j. upd f x None j ≡ Some u) eq (upd_own f x None ∙ sym (ready.fall t x h e) ∙ ap f eq ∙ g)
                by_name (inr off) = upd_other f x y None (λ eq. both_ways (bytes_eq x y) off (subst (λ j. bytes_eq x j ≡ true) eq (own_text x))) ∙ g

    if_own : (f : Flags) (q : Option Text) (x : Text) (v : Option Bool) → q ≡ Some x → if_flag f q v x ≡ Some v
    if_own f None x v e = none_some e
    if_own f (Some y) x v e = subst (λ j. upd f y v j ≡ Some v) (same_Some _ _ e) (upd_own f y v)

    if_other : (f : Flags) (q : Option Text) (x : Text) (v : Option Bool) → q ≢ Some x → if_flag f q v x ≡ f x
    if_other f None x v ne = refl
    if_other f (Some y) x v ne = upd_other f y x v (λ e. ne (ap Some e))

    if_tells : (f : Flags) (q : Option Text) (x : Text) (v u : Option Bool) → if_flag f q v x ≡ Some u → (q ≡ Some x) ⊎ (f x ≡ Some u)
    if_tells f None x v u e = inr e
    if_tells f (Some y) x v u e = ⊎_elim (λ h. inl (ap Some h.0)) (λ h. inr h.1) (upd_tells f y x v u e)

    fresh_if : (q : Option Text) (x : Text) (r : Region) → FreshIf w term falls Cases q r → q ≡ Some x → Fresh w term falls Cases x r
    fresh_if None x r h e = none_some e
    fresh_if (Some y) x r h e = subst (λ j. Fresh w term falls Cases j r) (same_Some _ _ e) h

    none_or : {A : Type 0} (m : Option A) → ((a : A) → m ≡ Some a → ⊥) → m ≡ None
    none_or None h = refl
    none_or (Some a) h = absurd (h a refl)

    out_flag : (q : Option Text) (m : Option ℕ) (l : Text) (t : ℕ) → out_of q m ≡ Some (l, t) → (q ≡ Some l) × (m ≡ Some t)
    out_flag None m l t e = none_some e
    out_flag (Some y) None l t e = none_some e
    out_flag (Some y) (Some n) l t e = let pair = same_Some _ _ e in (ap (λ p. Some p.0) pair, ap (λ p. Some p.1) pair)

    same_within : (f : Flags) → Within f f
    same_within f x v e = (v, e)

    only_gives : (Q : C → Option Typed → State → Type 0) (o f : Flags) (ns : List (List Text)) (v : Ways) (c : C) (x : Run) → ((d : C) (r : Option Typed) (z : State) → Q d r z → Ended ns d r z) → Follows C step State (Option Typed) (Never C step State (Option Typed)) (Never C step State (Option Typed)) (Never C step State (Option Typed)) Q 0 k c x → F o f ns v 1 c x
    only_gives Q o f ns v c (normal e s) q (inl l) = absurd l.holds
    only_gives Q o f ns v c (breaks e s) q (inl l) = absurd l.holds
    only_gives Q o f ns v c (continues e s) q (inl l) = absurd l.holds
    only_gives Q o f ns v c (returns e r s) q (inl l) = inl (record { to = l.to; comes = l.comes; holds = q l.to r s l.holds })
    only_gives Q o f ns v c (cut e) q (inl l) = inl l
    only_gives Q o f ns v c (waits e) q (inl l) = inl l
    only_gives Q o f ns v c (stuck e) q (inl l) = absurd l
    only_gives Q o f ns v c (normal e s) q (inr b) = inr b
    only_gives Q o f ns v c (breaks e s) q (inr b) = inr b
    only_gives Q o f ns v c (continues e s) q (inr b) = inr b
    only_gives Q o f ns v c (returns e r s) q (inr b) = inr b
    only_gives Q o f ns v c (cut e) q (inr b) = inr b
    only_gives Q o f ns v c (waits e) q (inr b) = inr b
    only_gives Q o f ns v c (stuck e) q (inr b) = inr b

    -- what follows a plain block
    plain_follows : (tm : Term) (b : ℕ) (r : Region) (pl : Place) (o f : Flags) (ns : List (List Text)) (v : Ways) (c : C) (s : State) → term b ≡ tm → PlainLeads w term falls Cases tm b r (Leads w term falls Cases r pl v) → Start b c s → K o f ns s
        → ((t : ℕ) → Leads w term falls Cases r pl v t → (d : C) (z : State) → Start t d z → K o f ns z → F o f ns v (weight r) d (runs (rest_text pl r) z))
        → F o f ns v 1 c (runs (w.statements b ++ (entering w b (w.target b 0) r ++ region_text w pl r)) s)
    plain_follows (jump t) b r pl o f ns v c s is h start on ih =
        block_then (Next o f ns v) (Left o f ns v) (At o f ns v.again) (Ended ns) o f ns 1 b c s _ start on (λ d z at on.
        after_going (Next o f ns v) (Left o f ns v) (At o f ns v.again) (Ended ns) (weight r) d _ (λ e. Arrives b t e z) (ok.jump_ok b t d z is at) (λ e arrives.
        subst (λ j. F o f ns v (weight r) e (runs (entering w b j r ++ region_text w pl r) z)) (sym h.0)
        (arrive_then (Next o f ns v) (Left o f ns v) (At o f ns v.again) (Ended ns) o f ns (weight r) b t pl r e z h.1 arrives on (ih t h.2))))
    plain_follows (branch t u) b r pl o f ns v c s is h start on ih = absurd h
    plain_follows table b r pl o f ns v c s is h start on ih = absurd h
    plain_follows return b r pl o f ns v c s is h start on ih =
        subst (λ q. F o f ns v 1 c (runs (w.statements b ++ (entering w b (w.target b 0) q ++ region_text w pl q)) s)) (sym h)
        (block_then (Next o f ns v) (Left o f ns v) (At o f ns v.again) (Ended ns) o f ns 1 b c s (give (w.value b) ∷ []) start on (λ d z at on.
        last_then (Next o f ns v) (Left o f ns v) (At o f ns v.again) (Ended ns) 1 d (give (w.value b)) z (given b d z is at on)))
      where
        given : (b : ℕ) (d : C) (z : State) → term b ≡ return → Stop b d z → K o f ns z → F o f ns v 1 d (stmt_run p calls k (give (w.value b)) z)
        given b d z is at on = only_gives (λ e r q. R e r q × (names_of q.frames ≡ names_of z.frames)) o f ns v d (stmt_run p calls k (give (w.value b)) z) (λ e r q h. record { is = h.0; top = on.top; shape = h.1 ∙ on.shape }) (ok.return_ok b d z is at)
    plain_follows lost b r pl o f ns v c s is h start on ih =
        subst (λ q. F o f ns v 1 c (runs (w.statements b ++ (entering w b (w.target b 0) q ++ region_text w pl q)) s)) (sym h)
        (block_then (Next o f ns v) (Left o f ns v) (At o f ns v.again) (Ended ns) o f ns 1 b c s [] start on (λ d z at on. inr (fails_now C step d _ (ok.lost_ok b d z is at))))

    -- a region inside a loop, where these are known
    abbrev Body : Region → Place → Flags → Flags → Ways → ℕ → Type 0
    Body x pl o f v t = (ns : List (List Text)) (d : C) (z : State) → Start t d z → K o f ns z → F o f ns v (weight x) d (runs (rest_text pl x) z)

    abbrev loop_ways : ℕ → Option ℕ → Option ℕ → Option ℕ → Ways
    loop_ways h n m a = record { normal = n; fall = None; leave = m; again = a; out = out_of (w.leave h) m }

    -- behind a loop, in which more was known
    abbrev Behind : Flags → Flags → List (List Text) → Option ℕ → C → State → Type 0
    Behind o f ns m d s = At o f ns m d s

    behind_loop : (o f g : Flags) (ns : List (List Text)) (h : ℕ) (n m a : Option ℕ) (d : C) (z : State) → ((x : Text) (u : Option Bool) → f x ≡ Some u → (w.leave h ≢ Some x) × (g x ≡ Some u)) → Left o g ns (loop_ways h n m a) d z → At o f ns m d z
    behind_loop o f g ns h n m a d z sub (inl at) = record { to = at.to; is = at.is; start = at.start; on = on_sub IsFlag o f g ns z (λ x u e. inl (sub x u e).1) at.on }
    behind_loop o f g ns h n m a d z sub (inr out) =
        let q = out_flag (w.leave h) m out.flag out.to out.is in
        record { to = out.to; is = q.1; start = out.start; on = on_sub IsFlag o f (upd g out.flag None) ns z (λ x u e. let y = sub x u e in inl (upd_other g out.flag x None (λ same. y.0 (q.0 ∙ ap Some same)) ∙ y.1)) out.on }

    loop_ready : (g : Flags) (h : ℕ) (n m a : Option ℕ) → ((l : Text) → w.leave h ≡ Some l → g l ≡ Some (Some false)) → Ready g (loop_ways h n m a)
    loop_ready g h n m a known = record { out = λ l t e. known l (out_flag (w.leave h) m l t e).0; fall = λ t x e q. none_some e }

    -- a loop without a continue construct
    loop_follows : (h : ℕ) (x : Region) (o f : Flags) (ns : List (List Text)) (m : Option ℕ) (v : Ways) (c : C) (s : State) → IsBlock x → IsItem x → w.again h ≡ None
        → ((y : Text) (u : Option Bool) → f y ≡ Some u → w.leave h ≢ Some y) → Within o f → Start h c s → K o f ns s
        → Body x (inside_loop h false) (if_flag f (w.leave h) (Some false)) (if_flag f (w.leave h) (Some false)) (loop_ways h None m (Some h)) h
        → G (At o f ns m) (Left o f ns v) (At o f ns v.again) (Ended ns) 0 c (runs (loop_text w h (region_text w (inside_loop h false) x)) s)
    loop_follows h x o f ns m v c s block it unneeded apart within start on body =
        subst (λ q. G (At o f ns m) (Left o f ns v) (At o f ns v.again) (Ended ns) 0 c (runs ((flags (λ x. declare_flag x ∷ []) q ++ flags (λ x. declare_flag x ∷ []) (w.leave h)) ++ (tree.loop (stmts_in inside) ∷ [])) s)) (sym unneeded)
        (flags_then (At o f ns m) (Left o f ns v) (At o f ns v.again) (Ended ns) o f ns 0 h (w.leave h) c s (tree.loop (stmts_in inside) ∷ []) (λ y e. ok.leave_flag h y e) new start on (λ z start on.
        last_then (At o f ns m) (Left o f ns v) (At o f ns v.again) (Ended ns) 0 c (tree.loop (stmts_in inside)) z
        (turns_follow C step State (Option Typed) H (At o f ns m) (Left o f ns v) (At o f ns v.again) (Ended ns) k (in_braces (runs inside)) turn_follows k (omega arith) c z (start, on))))
      where
        inside : List Stmt
        inside = region_text w (inside_loop h false) x

        g : Flags
        g = if_flag f (w.leave h) (Some false)

        ways : Ways
        ways = loop_ways h None m (Some h)

        H : C → State → Type 0
        H d z = Start h d z × K o g ns z

        new : (y : Text) → w.leave h ≡ Some y → o y ≡ None
        new y e = none_or (o y) (λ u is. let q = within y u is in apart y q.0 q.1 e)

        ready : Ready g ways
        ready = loop_ready g h None m (Some h) (λ l e. if_own f (w.leave h) l (Some false) e)

        sub : (y : Text) (u : Option Bool) → f y ≡ Some u → (w.leave h ≢ Some y) × (g y ≡ Some u)
        sub y u e = (apart y u e, if_other f (w.leave h) y (Some false) (apart y u e) ∙ e)

        turn_follows : (d : C) (z : State) → H d z → Follows C step State (Option Typed) H (At o f ns m) H (Ended ns) 1 k d (in_braces (runs inside) z)
        turn_follows d z h' =
            mapped (Next o g ns ways) (Left o g ns ways) (At o g ns (Some h)) H (At o f ns m) H (Ended ns) (Ended ns) 1 d (in_braces (runs inside) z)
            (λ e q n. ⊎_elim (λ a. none_some a.is) (λ a. none_some a.is) n)
            (λ e q l. behind_loop o f g ns h None m (Some h) e q sub l)
            (λ e q a. (subst (λ j. Start j e q) (sym (same_Some _ _ a.is)) a.start, a.on))
            (λ e r q y. y)
            (braces_follow o g g ns ways 1 d z (runs inside) h'.1 (same_within g) ready
            (subst (λ u. F g g (names_of z.frames) ways u d (runs inside (pushed z))) (weight_is x block)
            (subst (λ l. F g g (names_of z.frames) ways (weight x) d (runs l (pushed z))) (rest_is (inside_loop h false) x it)
            (body (names_of z.frames) d (pushed z) (ok.start_enters h d z h'.0) (on_push IsFlag o g ns z h'.1)))))

    -- a loop with a continue construct
    loop_on_follows : (h e : ℕ) (a : Text) (y x : Region) (o f : Flags) (ns : List (List Text)) (m : Option ℕ) (v : Ways) (c : C) (s : State) → IsBlock x → IsItem x → IsItem y → w.again h ≡ Some a → w.leave h ≢ Some a
        → ((q : Text) (u : Option Bool) → f q ≡ Some u → (q ≢ a) × (w.leave h ≢ Some q)) → Within o f → Start h c s → K o f ns s
        → ((o : Flags) → Within o (upd (if_flag (upd f a (Some false)) (w.leave h) (Some false)) a (Some true)) → Body y (inside_loop h true) o (upd (if_flag (upd f a (Some false)) (w.leave h) (Some false)) a (Some true)) (loop_ways h (Some h) m None) e)
        → ((o : Flags) → Within o (upd (if_flag (upd f a (Some false)) (w.leave h) (Some false)) a (Some true)) → Body x (inside_loop h false) o (upd (if_flag (upd f a (Some false)) (w.leave h) (Some false)) a (Some true)) (loop_ways h None m (Some e)) h)
        → G (At o f ns m) (Left o f ns v) (At o f ns v.again) (Ended ns) 0 c (runs (loop_text w h (turn (w.again h) (region_text w (inside_loop h true) y) ++ region_text w (inside_loop h false) x)) s)
    loop_on_follows h e a y x o f ns m v c s block it ity needed other apart within start on fy fx =
        subst (λ q. G (At o f ns m) (Left o f ns v) (At o f ns v.again) (Ended ns) 0 c (runs ((flags (λ x. declare_flag x ∷ []) q ++ flags (λ x. declare_flag x ∷ []) (w.leave h)) ++ (tree.loop (stmts_in (turn q (region_text w (inside_loop h true) y) ++ region_text w (inside_loop h false) x)) ∷ [])) s)) (sym needed)
        (normal_then (At o f ns m) (Left o f ns v) (At o f ns v.again) (Ended ns) 0 c (declare_flag a) (flags (λ x. declare_flag x ∷ []) (w.leave h) ++ (tree.loop (stmts_in inside) ∷ [])) s (unset s a) refl
        (flags_then (At o f ns m) (Left o f ns v) (At o f ns v.again) (Ended ns) o f1 ns 0 h (w.leave h) c (unset s a) (tree.loop (stmts_in inside) ∷ []) (λ q e. ok.leave_flag h q e) new (ok.start_declares h c s a flag_a start) (on_declare IsFlag o f ns s a flag_a new_a on) (λ z start on.
        last_then (At o f ns m) (Left o f ns v) (At o f ns v.again) (Ended ns) 0 c (tree.loop (stmts_in inside)) z
        (turns_follow C step State (Option Typed) H (At o f ns m) (Left o f ns v) (At o f ns v.again) (Ended ns) k (in_braces (runs inside)) turn_follows k (omega arith) c z (inl (start, on))))))
      where
        zt : List Stmt
        zt = region_text w (inside_loop h true) y

        xt : List Stmt
        xt = region_text w (inside_loop h false) x

        inside : List Stmt
        inside = when (name a) (stmts_in zt) ∷ set_flag a true ∷ xt

        f1 : Flags
        f1 = upd f a (Some false)

        f2 : Flags
        f2 = if_flag f1 (w.leave h) (Some false)

        f3 : Flags
        f3 = upd f2 a (Some true)

        vy : Ways
        vy = loop_ways h (Some h) m None

        vx : Ways
        vx = loop_ways h None m (Some e)

        H : C → State → Type 0
        H d z = (Start h d z × K o f2 ns z) ⊎ (Start e d z × K o f3 ns z)

        flag_a : IsFlag a
        flag_a = ok.again_flag h a needed

        new_a : o a ≡ None
        new_a = none_or (o a) (λ u is. let q = within a u is in (apart a q.0 q.1).0 refl)

        new : (q : Text) → w.leave h ≡ Some q → o q ≡ None
        new q e = none_or (o q) (λ u is. let r = within q u is in (apart q r.0 r.1).1 e)

        f2_a : f2 a ≡ Some (Some false)
        f2_a = if_other f1 (w.leave h) a (Some false) other ∙ upd_own f a (Some false)

        f3_leave : (l : Text) → w.leave h ≡ Some l → f3 l ≡ Some (Some false)
        f3_leave l e = upd_other f2 a l (Some true) (λ same. other (e ∙ ap Some (sym same))) ∙ if_own f1 (w.leave h) l (Some false) e

        f3_more : (q : Text) (u : Option Bool) → f q ≡ Some u → (w.leave h ≢ Some q) × (f3 q ≡ Some u)
        f3_more q u e =
            let r = apart q u e in
            (r.1, upd_other f2 a q (Some true) (λ same. r.0 (sym same)) ∙ if_other f1 (w.leave h) q (Some false) r.1 ∙ upd_other f a q (Some false) (λ same. r.0 (sym same)) ∙ e)

        -- what is known before the first turn is known after it, but for the flag's value
        f2_within : Within f2 f3
        f2_within q u e = by_name (cases_Bool (bytes_eq a q))
          where
            by_name : (bytes_eq a q ≡ true) ⊎ (bytes_eq a q ≡ false) → (r : Option Bool) × (f3 q ≡ Some r)
            by_name (inl is) = (Some true, subst (λ j. f3 j ≡ Some (Some true)) (same_text a q is) (upd_own f2 a (Some true)))
            by_name (inr off) = (u, upd_other f2 a q (Some true) (λ eq. both_ways (bytes_eq a q) off (subst (λ j. bytes_eq a j ≡ true) eq (own_text a))) ∙ e)

        f3_within : Within f3 f2
        f3_within q u e = ⊎_elim (λ r. (Some false, subst (λ j. f2 j ≡ Some (Some false)) r.0 f2_a)) (λ r. (u, r.1)) (upd_tells f2 a q (Some true) u e)

        ready_x : Ready f3 vx
        ready_x = loop_ready f3 h None m (Some e) f3_leave

        ready_y : Ready f3 vy
        ready_y = loop_ready f3 h (Some h) m None f3_leave

        same_f3 : (q : Text) (u : Option Bool) → f3 q ≡ Some u → upd f3 a (Some true) q ≡ Some u
        same_f3 q u e = by_name (cases_Bool (bytes_eq a q))
          where
            by_name : (bytes_eq a q ≡ true) ⊎ (bytes_eq a q ≡ false) → upd f3 a (Some true) q ≡ Some u
            by_name (inl is) = let eq = same_text a q is in subst (λ j. upd f3 a (Some true) j ≡ Some u) eq (upd_own f3 a (Some true) ∙ sym (upd_own f2 a (Some true)) ∙ ap f3 eq ∙ e)
            by_name (inr off) = upd_other f3 a q (Some true) (λ eq. both_ways (bytes_eq a q) off (subst (λ j. bytes_eq a j ≡ true) eq (own_text a))) ∙ e

        -- the flag is set, and the body follows
        body_follows : (p o1 : Flags) (ms : List (List Text)) (d : C) (z : State) (u : Option Bool) → Within o1 f3 → p a ≡ Some u → ((q : Text) (u : Option Bool) → f3 q ≡ Some u → upd p a (Some true) q ≡ Some u) → Start h d z → K o1 p ms z → F o1 f3 ms vx 1 d (runs (set_flag a true ∷ xt) z)
        body_follows p o1 ms d z u wi is more start on =
            let was : (b : Bool) × Has a b z = there u is in
            normal_then (Next o1 f3 ms vx) (Left o1 f3 ms vx) (At o1 f3 ms vx.again) (Ended ms) 1 d (set_flag a true) xt z (flagged z a true) (set_run z a true was.0 was.1)
            (subst (λ r. F o1 f3 ms vx r d (runs xt (flagged z a true))) (weight_is x block)
            (subst (λ l. F o1 f3 ms vx (weight x) d (runs l (flagged z a true))) (rest_is (inside_loop h false) x it)
            (fx o1 wi ms d (flagged z a true) (ok.start_puts h d z a true flag_a start)
            (on_sub IsFlag o1 f3 (upd p a (Some true)) ms (flagged z a true) (λ q u e. inl (more q u e)) (on_set IsFlag o1 p ms z a true u is (Some true) (inr refl) on)))))
          where
            there : (r : Option Bool) → p a ≡ Some r → (b : Bool) × Has a b z
            there None e = on.some a e
            there (Some b) e = (b, on.by a b e)

        H_of : (d : C) (z : State) → F o f3 ns vx 1 d (in_braces (runs inside) z) → Follows C step State (Option Typed) H (At o f ns m) H (Ended ns) 1 k d (in_braces (runs inside) z)
        H_of d z h' =
            mapped (Next o f3 ns vx) (Left o f3 ns vx) (At o f3 ns (Some e)) H (At o f ns m) H (Ended ns) (Ended ns) 1 d (in_braces (runs inside) z)
            (λ e q n. ⊎_elim (λ a. none_some a.is) (λ a. none_some a.is) n)
            (λ d q l. behind_loop o f f3 ns h None m (Some e) d q f3_more l)
            (λ d q at. inr (subst (λ j. Start j d q) (sym (same_Some _ _ at.is)) at.start, at.on))
            (λ e r q y. y) h'

        turn_follows : (d : C) (z : State) → H d z → Follows C step State (Option Typed) H (At o f ns m) H (Ended ns) 1 k d (in_braces (runs inside) z)
        turn_follows d z (inl h') =
            let on2 : K f2 f2 (names_of z.frames) (pushed z) = on_push IsFlag o f2 ns z h'.1 in
            H_of d z (braces_follow o f2 f3 ns vx 1 d z (runs inside) h'.1 f3_within ready_x
            (normal_then (Next f2 f3 (names_of z.frames) vx) (Left f2 f3 (names_of z.frames) vx) (At f2 f3 (names_of z.frames) vx.again) (Ended (names_of z.frames)) 1 d (when (name a) (stmts_in zt)) (set_flag a true ∷ xt) (pushed z) (pushed z)
            (when_run (name a) (stmts_in zt) (pushed z) false (test_run (pushed z) a false (on2.by a false f2_a)))
            (body_follows f2 f2 (names_of z.frames) d (pushed z) (Some false) f2_within f2_a (λ q u e. e) (ok.start_enters h d z h'.0) on2)))
        turn_follows d z (inr h') =
            let ms : List (List Text) = names_of z.frames in
            let on3 : K f3 f3 ms (pushed z) = on_push IsFlag o f3 ns z h'.1 in
            let set : Has a true (pushed z) = on3.by a true (upd_own f2 a (Some true)) in
            let cont : F f3 f3 ms vy (weight y) d (in_braces (runs zt) (pushed z)) =
            braces_follow f3 f3 f3 ms vy (weight y) d (pushed z) (runs zt) on3 (same_within f3) ready_y
            (subst (λ l. F f3 f3 (names_of (pushed z).frames) vy (weight y) d (runs l (pushed (pushed z)))) (rest_is (inside_loop h true) y ity)
            (fy f3 (same_within f3) (names_of (pushed z).frames) d (pushed (pushed z)) (ok.start_enters e d (pushed z) (ok.start_enters e d z h'.0)) (on_push IsFlag f3 f3 ms (pushed z) on3))) in
            let first : F f3 f3 ms vy (weight y) d (stmt_run p calls k (when (name a) (stmts_in zt)) (pushed z)) =
            subst (F f3 f3 ms vy (weight y) d) (sym (when_run (name a) (stmts_in zt) (pushed z) true (test_run (pushed z) a true set))) cont in
            H_of d z (braces_follow o f3 f3 ns vx 1 d z (runs inside) h'.1 (same_within f3) ready_x
            (part_then C step State (Option Typed) (Next f3 f3 ms vx) (Left f3 f3 ms vx) (At f3 f3 ms vx.again) (Ended ms) (At f3 f3 ms (Some h)) (weight y) 1 k d (runs (set_flag a true ∷ xt)) (stmt_run p calls k (when (name a) (stmts_in zt)) (pushed z))
            (mapped (Next f3 f3 ms vy) (Left f3 f3 ms vy) (At f3 f3 ms None) (At f3 f3 ms (Some h)) (Left f3 f3 ms vx) (Never C step State (Option Typed)) (Ended ms) (Ended ms) (weight y) d (stmt_run p calls k (when (name a) (stmts_in zt)) (pushed z))
            (λ d q n. ⊎_elim (λ at. at) (λ at. none_some at.is) n) (λ d q l. l) (λ d q at. none_some at.is) (λ d r q i. i) first)
            (λ d q at. body_follows f3 f3 ms d q (Some true) (same_within f3) (upd_own f2 a (Some true)) same_f3 (subst (λ j. Start j d q) (sym (same_Some _ _ at.is)) at.start) at.on)))

    -- a switch, and what is known in its groups
    abbrev fell_map : Flags → Groups → Option Bool → Flags
    fell_map f none b = f
    fell_map f (group t labels default x gs) b = fell_map (if_flag f (w.fell t) b) gs b

    fell_stays : (gs : Groups) (f : Flags) (b : Option Bool) (y : Text) → f y ≡ Some b → fell_map f gs b y ≡ Some b
    fell_stays none f b y e = e
    fell_stays (group t labels default x gs) f b y e = fell_stays gs (if_flag f (w.fell t) b) b y (again (w.fell t))
      where
        again : (q : Option Text) → if_flag f q b y ≡ Some b
        again None = e
        again (Some z) = by_name (cases_Bool (bytes_eq z y))
          where
            by_name : (bytes_eq z y ≡ true) ⊎ (bytes_eq z y ≡ false) → upd f z b y ≡ Some b
            by_name (inl is) = rw (is, upd) refl
            by_name (inr off) = rw (off, upd) e

    fell_has : (gs : Groups) (f : Flags) (b : Option Bool) (u : ℕ) (y : Text) → In u (targets gs) → w.fell u ≡ Some y → fell_map f gs b y ≡ Some b
    fell_has none f b u y i e = absurd i
    fell_has (group t labels default x gs) f b u y (inl i) e = fell_stays gs (if_flag f (w.fell t) b) b y (if_own f (w.fell t) y b (ap w.fell (sym i) ∙ e))
    fell_has (group t labels default x gs) f b u y (inr i) e = fell_has gs (if_flag f (w.fell t) b) b u y i e

    fell_out : (gs : Groups) (f : Flags) (b : Option Bool) (y : Text) → FreshGroups w term falls Cases y gs → fell_map f gs b y ≡ f y
    fell_out none f b y h = refl
    fell_out (group t labels default x gs) f b y h = fell_out gs (if_flag f (w.fell t) b) b y h.2 ∙ if_other f (w.fell t) y b h.0

    fell_tells : (gs : Groups) (f : Flags) (b u : Option Bool) (y : Text) → fell_map f gs b y ≡ Some u → ((t : ℕ) × (In t (targets gs) × (w.fell t ≡ Some y))) ⊎ (f y ≡ Some u)
    fell_tells none f b u y e = inr e
    fell_tells (group t labels default x gs) f b u y e =
        ⊎_elim (λ h. inl (h.0, (inr h.1.0, h.1.1))) (λ h. ⊎_elim (λ is. inl (t, (inl refl, is))) (λ was. inr was) (if_tells f (w.fell t) y b u h)) (fell_tells gs (if_flag f (w.fell t) b) b u y e)

    -- the flags of the cases are declared
    fell_then : (N L A : C → State → Type 0) (Q : C → Option Typed → State → Type 0) (gs : Groups) (o f : Flags) (ns : List (List Text)) (u h : ℕ) (c : C) (s : State) (xs : List Stmt) → ((t : ℕ) (y : Text) → In t (targets gs) → w.fell t ≡ Some y → o y ≡ None) → Stop h c s → K o f ns s
        → ((z : State) → Stop h c z → K o (fell_map f gs (Some false)) ns z → G N L A Q u c (runs xs z)) → G N L A Q u c (runs (fell_flags w gs ++ xs) s)
    fell_then N L A Q none o f ns u h c s xs new at on n = n s at on
    fell_then N L A Q (group t labels default x gs) o f ns u h c s xs new at on n =
        subst (λ l. G N L A Q u c (runs l s)) (sym (append_assoc (flags (λ y. declare_flag y ∷ []) (w.fell t)) (fell_flags w gs) xs))
        (by_flag (w.fell t) refl (λ f s new at on n. fell_then N L A Q gs o f ns u h c s xs new at on n))
      where
        Rest : Type 0
        Rest = (f : Flags) (s : State) → ((r : ℕ) (y : Text) → In r (targets gs) → w.fell r ≡ Some y → o y ≡ None) → Stop h c s → K o f ns s
            → ((z : State) → Stop h c z → K o (fell_map f gs (Some false)) ns z → G N L A Q u c (runs xs z)) → G N L A Q u c (runs (fell_flags w gs ++ xs) s)

        by_flag : (q : Option Text) → w.fell t ≡ q → Rest → G N L A Q u c (runs (flags (λ y. declare_flag y ∷ []) q ++ (fell_flags w gs ++ xs)) s)
        by_flag None e rest = rest f s (λ r y i. new r y (inr i)) at on (λ z at on. n z at (subst (λ q. K o (fell_map (if_flag f q (Some false)) gs (Some false)) ns z) (sym e) on))
        by_flag (Some y) e rest =
            normal_then N L A Q u c (declare_flag y) (fell_flags w gs ++ xs) s (unset s y) refl
            (rest (upd f y (Some false)) (unset s y) (λ r y i. new r y (inr i)) (ok.stop_declares h c s y (ok.fell_flag t y e) at) (on_declare IsFlag o f ns s y (ok.fell_flag t y e) (new t y (inl refl) e) on)
            (λ z at on. n z at (subst (λ q. K o (fell_map (if_flag f q (Some false)) gs (Some false)) ns z) (sym e) on)))

    -- where a group begins: by the edge from the header, or fallen into
    abbrev Entry : ℕ → ℕ → C → State → Type 0
    Entry h u d z = (Arrives h u d z × ((y : Text) → w.fell u ≡ Some y → Has y false z)) ⊎ (Start u d z × ((y : Text) → w.fell u ≡ Some y → Has y true z) × ((t : ℕ) × (falls t ≡ Some u)))

    -- the body of a group does what is said of it, from wherever it begins
    abbrev GroupOk : Flags → Flags → List (List Text) → ℕ → Ways → ℕ → List Stmt → Type 0
    GroupOk o f ns h v u body = (d : C) (z : State) → K o f ns z → Entry h u d z → F o f ns v 0 d (in_braces (runs body) z)

    abbrev AllOk : Flags → Flags → List (List Text) → ℕ → Place → Ways → Bool → Option ℕ → Groups → Type 0
    AllOk o f ns h pl v breaking m none = Unit {0}
    AllOk o f ns h pl v breaking m (group u labels default x gs) = GroupOk o f ns h (in_case w term falls Cases v breaking m u) u (entering_case w h u x ++ region_text w (inside_switch pl) x) × AllOk o f ns h pl v breaking m gs

    -- the copies of an edge in braces of their own
    guarded_copies : (o f : Flags) (ns : List (List Text)) (b t : ℕ) (d : C) (z : State) → Arrives b t d z → K o f ns z → Plain (λ d q. Start t d q × K o f ns q) d (in_braces (runs (w.copies b t)) z)
    guarded_copies o f ns b t d z arrives on =
        closing (λ d q. Start t d q × K f f ms q) (Never C step State (Option Typed)) (Never C step State (Option Typed)) (λ d q. Start t d q × K o f ns q) (Never C step State (Option Typed)) (Never C step State (Option Typed)) (NeverGives C step State (Option Typed)) (NeverGives C step State (Option Typed)) 0 d (runs (w.copies b t) (pushed z))
        (λ d q h. (ok.start_exits t d q h.1.top on.top ns (h.1.shape ∙ ap (λ l. h.1.top ∷ l) on.shape) h.0, on_pop IsFlag o f f ns z q on (same_within f) h.1)) (λ d q h. h) (λ d q h. h) (λ d r q h. h) inside
      where
        ms : List (List Text)
        ms = names_of z.frames

        inside : Plain (λ d q. Start t d q × K f f ms q) d (runs (w.copies b t) (pushed z))
        inside =
            mapped (λ d q. Start t d q × Keeps IsFlag (pushed z) q) (Never C step State (Option Typed)) (Never C step State (Option Typed)) (λ d q. Start t d q × K f f ms q) (Never C step State (Option Typed)) (Never C step State (Option Typed)) (NeverGives C step State (Option Typed)) (NeverGives C step State (Option Typed)) 0 d (runs (w.copies b t) (pushed z))
            (λ d q h. (h.0, on_kept IsFlag f f ms (pushed z) q (on_push IsFlag o f ns z on) h.1)) (λ d q h. h) (λ d q h. h) (λ d r q h. h)
            (and_kept (Start t) (Keeps IsFlag (pushed z)) d (runs (w.copies b t) (pushed z)) (ok.copies_keep b t (pushed z) [] (names_of z.frames) refl) (ok.copies_ok b t d (pushed z) (ok.arrives_enters b t d z arrives)))

    group_follows : (o f : Flags) (ns : List (List Text)) (h u : ℕ) (pl : Place) (v : Ways) (x : Region) → Ready f v → IsEdge h u x → ((y : Text) → w.fell u ≡ Some y → IsItem x)
        → ((ms : List (List Text)) (d : C) (z : State) → Start u d z → K f f ms z → F f f ms v (weight x) d (runs (rest_text pl x) z)) → GroupOk o f ns h v u (entering_case w h u x ++ region_text w pl x)
    group_follows o f ns h u pl v x ready edge flagged_item ih d z on entry =
        braces_follow o f f ns v 0 d z (runs (entering_case w h u x ++ region_text w pl x)) on (same_within f) ready (inner (w.fell u) refl entry)
      where
        ms : List (List Text)
        ms = names_of z.frames

        on2 : K f f ms (pushed z)
        on2 = on_push IsFlag o f ns z on

        Goal : List Stmt → Type 0
        Goal l = F f f ms v 0 d (runs l (pushed z))

        lighter : (d : C) (q : Run) → F f f ms v (weight x) d q → F f f ms v 0 d q
        lighter d q g = weaker C step State (Option Typed) (Next f f ms v) (Left f f ms v) (At f f ms v.again) (Ended ms) (weight x) 0 k d q (omega arith) g

        -- copies of which there are none
        no_copies : (r : Region) → IsEdge h u r → w.copies h u ≡ [] → (entering w h u r ++ region_text w pl r) ≡ rest_text pl r
        no_copies (ends (Edge a e kind)) g none_there = ap (λ l. l ++ edge_text w pl e kind) (ap (λ j. w.copies j e) g.0 ∙ ap (w.copies h) g.1 ∙ none_there)
        no_copies (ends (Return e)) g none_there = absurd g
        no_copies (ends (Lost e)) g none_there = absurd g
        no_copies (ends Closed) g none_there = absurd g
        no_copies (item i r) g none_there = ap (λ l. l ++ region_text w pl (item i r)) none_there

        inner : (q : Option Text) → w.fell u ≡ q → Entry h u d z → Goal (unless_fallen (entering w h u x) q ++ region_text w pl x)
        inner None e (inl a) =
            lighter d (runs (entering w h u x ++ region_text w pl x) (pushed z))
            (arrive_then (Next f f ms v) (Left f f ms v) (At f f ms v.again) (Ended ms) f f ms (weight x) h u pl x d (pushed z) edge (ok.arrives_enters h u d z a.0) on2 (ih ms))
        inner None e (inr a) =
            subst Goal (sym (no_copies x edge (ok.fallen_copies h a.2.0 u a.2.1 e)))
            (lighter d (runs (rest_text pl x) (pushed z)) (ih ms d (pushed z) (ok.start_enters u d z a.0) on2))
        inner (Some y) e a = by_item x refl (flagged_item y e)
          where
            behind_flag : (r : Region) → ((d : C) (q : State) → Start u d q → K f f ms q → F f f ms v (weight x) d (runs (rest_text pl r) q)) → IsItem r → (entering w h u r ≡ w.copies h u) → F f f ms v 0 d (runs (unless_fallen (entering w h u r) (Some y) ++ region_text w pl r) (pushed z))
            behind_flag r onto it copies = by_entry a
              where
                cs : List Stmt
                cs = entering w h u r

                by_entry : Entry h u d z → F f f ms v 0 d (runs (when (not (name y)) (stmts_in cs) ∷ region_text w pl r) (pushed z))
                by_entry (inl b) =
                    let run = when_run (not (name y)) (stmts_in cs) (pushed z) true (not_run (pushed z) y false (b.1 y e)) in
                    subst (λ q. F f f ms v 0 d (then_do q (runs (region_text w pl r)))) (sym run)
                    (subst (λ l. F f f ms v 0 d (then_do (in_braces (runs l) (pushed z)) (runs (region_text w pl r)))) (sym copies)
                    (plain_then (Next f f ms v) (Left f f ms v) (At f f ms v.again) (Ended ms) (λ d q. Start u d q × K f f ms q) 0 d (in_braces (runs (w.copies h u)) (pushed z)) (runs (region_text w pl r))
                    (guarded_copies f f ms h u d (pushed z) (ok.arrives_enters h u d z b.0) on2)
                    (λ d q st. lighter d (runs (region_text w pl r) q) (subst (λ l. F f f ms v (weight x) d (runs l q)) (rest_is pl r it) (onto d q st.0 st.1)))))
                by_entry (inr b) =
                    let run = when_run (not (name y)) (stmts_in cs) (pushed z) false (not_run (pushed z) y true (b.1 y e)) in
                    subst (λ q. F f f ms v 0 d (then_do q (runs (region_text w pl r)))) (sym run)
                    (subst (F f f ms v 0 d) (sym (begun_none (runs (region_text w pl r) (pushed z))))
                    (lighter d (runs (region_text w pl r) (pushed z)) (subst (λ l. F f f ms v (weight x) d (runs l (pushed z))) (rest_is pl r it) (onto d (pushed z) (ok.start_enters u d z b.0) on2))))

            by_item : (r : Region) → x ≡ r → IsItem r → Goal (unless_fallen (entering w h u x) (Some y) ++ region_text w pl x)
            by_item (ends q) is it = absurd it
            by_item (item i r) is it =
                subst (λ j. Goal (unless_fallen (entering w h u j) (Some y) ++ region_text w pl j)) (sym is)
                (behind_flag (item i r) (subst (λ j. (d : C) (q : State) → Start u d q → K f f ms q → F f f ms v (weight x) d (runs (rest_text pl j) q)) is (ih ms)) tt refl)

    module _ (o f : Flags) (ns : List (List Text)) (h : ℕ) (pl : Place) (v : Ways) (breaking : Bool) (m : Option ℕ) (t : ℕ) (q : List Label → Bool) where
      -- the group of a target, as it is written
      abbrev Found : (ℕ → Option tree.Arm) → ℕ → Type 0
      Found fa u = (ls : List Label) × (body : List Stmt) × (fa u ≡ Some (tree.group ls (stmts_in body))) × GroupOk o f ns h (in_case w term falls Cases v breaking m u) u body × (q ls ≡ nat_eq t u)

      abbrev written : Groups → List (ℕ × tree.Arm)
      written gs = groups_text w (inside_switch pl) h gs

      not_among : (gs : Groups) (fa : ℕ → Option tree.Arm) (u : ℕ) → (In u (targets gs) → ⊥) → update_all nat_eq fa (written gs) u ≡ fa u
      not_among none fa u ne = refl
      not_among (group j labels default x gs) fa u ne =
          not_among gs (update nat_eq fa j (Some (tree.group (labels_text w h labels default) (stmts_in (entering_case w h j x ++ region_text w (inside_switch pl) x))))) u (λ i. ne (inr i))
          ∙ update_apart fa j u (Some (tree.group (labels_text w h labels default) (stmts_in (entering_case w h j x ++ region_text w (inside_switch pl) x)))) (λ e. ne (inl (sym e)))

      find_group : (gs : Groups) (fa : ℕ → Option tree.Arm) (u : ℕ) → AllOk o f ns h pl v breaking m gs → Picks h t q gs → AreApart (targets gs) → In u (targets gs) → Found (update_all nat_eq fa (written gs)) u
      find_group none fa u ok1 picks apart i = absurd i
      find_group (group j labels default x gs) fa u ok1 picks apart (inl same) =
          let g = tree.group (labels_text w h labels default) (stmts_in (entering_case w h j x ++ region_text w (inside_switch pl) x)) in
          let none_later : In u (targets gs) → ⊥ = λ i. apart.0 (subst (λ z. In z (targets gs)) same i) in (
            labels_text w h labels default,
            entering_case w h j x ++ region_text w (inside_switch pl) x,
            not_among gs (update nat_eq fa j (Some g)) u none_later ∙ update_own fa j u (Some g) (sym same),
            subst (λ z. GroupOk o f ns h (in_case w term falls Cases v breaking m z) z (entering_case w h j x ++ region_text w (inside_switch pl) x)) (sym same) ok1.0,
            picks.0 ∙ ap (nat_eq t) (sym same),
          )
      find_group (group j labels default x gs) fa u ok1 picks apart (inr i) =
          find_group gs (update nat_eq fa j (Some (tree.group (labels_text w h labels default) (stmts_in (entering_case w h j x ++ region_text w (inside_switch pl) x))))) u ok1.1 picks.1 apart.1 i

      abbrev S : ℕ → C → Run → Type 0
      S u d x = G (Never C step State (Option Typed)) (Left o f ns (in_case w term falls Cases v breaking m 0)) (At o f ns v.again) (Ended ns) u d x

      order_tail : (j : ℕ) (ts : List ℕ) → AreInOrder falls (j ∷ ts) → AreInOrder falls ts
      order_tail j [] e = tt
      order_tail j (u ∷ ts) e = e.1

      found_later : (fa : ℕ → Option tree.Arm) (j : ℕ) (ts : List ℕ) → (In j ts → ⊥) → ((u : ℕ) → In u (j ∷ ts) → Found fa u) → (u : ℕ) → In u ts → Found (update nat_eq fa j None) u
      found_later fa j ts apart all u i =
          let g = all u (inr i) in
          (g.0, g.1, update_apart fa j u None (λ e. apart (subst (λ z. In z ts) (sym e) i)) ∙ g.2, g.3, g.4)

      arms_step : (fa : ℕ → Option tree.Arm) (j : ℕ) (ts : List ℕ) (ls : List Label) (body : List Stmt) → fa j ≡ Some (tree.group ls (stmts_in body)) → tree.arms_in (in_order (j ∷ ts) fa) ≡ tree.arm ls (stmts_in body) (tree.arms_in (in_order ts (update nat_eq fa j None)))
      arms_step fa j ts ls body e = ap (λ o. tree.arms_in (option_to_list o ++ in_order ts (update nat_eq fa j None))) e

      -- what a group falls into follows
      from_follows : (ts : List ℕ) (fa : ℕ → Option tree.Arm) (j : ℕ) → AreApart ts → AreInOrder falls (j ∷ ts) → ((u : ℕ) → In u ts → Found fa u) → (d : C) (z : State) → Next o f ns (in_case w term falls Cases v breaking m j) d z → S 0 d (arms_from p calls k (tree.arms_in (in_order ts fa)) z)
      from_follows [] fa j apart e all d z (inl a) = none_some a.is
      from_follows [] fa j apart e all d z (inr a) = none_some (sym e ∙ a.is)
      from_follows (u ∷ ts) fa j apart e all d z (inl a) = none_some a.is
      from_follows (u ∷ ts) fa j apart e all d z (inr a) =
          let g = all u (inl refl) in
          let same : a.to ≡ u = ⊎_elim (λ never. none_some (sym never ∙ a.is)) (λ is. same_Some _ _ (sym a.is ∙ is)) e.0 in
          let entry : Entry h u d z = inr (subst (λ y. Start y d z) same a.start, (λ y i. a.set y (ap w.fell same ∙ i)), (j, a.is ∙ ap Some same)) in
          subst (λ x. S 0 d (arms_from p calls k x z)) (sym (arms_step fa u ts g.0 g.1 g.2))
          (stmt_then C step State (Option Typed) (Never C step State (Option Typed)) (Left o f ns (in_case w term falls Cases v breaking m 0)) (At o f ns v.again) (Ended ns) (Next o f ns (in_case w term falls Cases v breaking m u)) 0 0 k d (arms_from p calls k (tree.arms_in (in_order ts (update nat_eq fa u None)))) (in_braces (runs g.1) z)
          (g.3 d z a.on entry)
          (λ d z n. from_follows ts (update nat_eq fa u None) u apart.1 e.1 (found_later fa u ts apart.0 all) d z n))

      -- the group of the target that is picked follows, and what it falls into
      run_follows : (ts : List ℕ) (fa : ℕ → Option tree.Arm) → AreApart ts → AreInOrder falls ts → ((u : ℕ) → In u ts → Found fa u) → In t ts → (d : C) (z : State) → K o f ns z → Arrives h t d z → ((y : Text) → w.fell t ≡ Some y → Has y false z) → S 0 d (arms_run p calls k (tree.arms_in (in_order ts fa)) q z)
      run_follows [] fa apart e all i d z on arrives unset = absurd i
      run_follows (u ∷ ts) fa apart e all i d z on arrives unset =
          subst (λ x. S 0 d (arms_run p calls k x q z)) (sym (arms_step fa u ts g.0 g.1 g.2))
          (by_pick (q g.0) g.4 (eqb_tells t u) (λ i. run_follows ts (update nat_eq fa u None) apart.1 (order_tail u ts e) (found_later fa u ts apart.0 all) i d z on arrives unset))
        where
          g : Found fa u
          g = all u (inl refl)

          rest : tree.Arms
          rest = tree.arms_in (in_order ts (update nat_eq fa u None))

          by_pick : (b : Bool) → b ≡ nat_eq t u → ((nat_eq t u ≡ true) × (t ≡ u)) ⊎ ((nat_eq t u ≡ false) × (t ≡ u → ⊥)) → (In t ts → S 0 d (arms_run p calls k rest q z)) → S 0 d (elim b as (λ r. Run) [ true ↦ then_do (in_braces (runs g.1) z) (arms_from p calls k rest) | false ↦ arms_run p calls k rest q z ])
          by_pick true is (inl w') later =
              let entry : Entry h u d z = inl (subst (λ y. Arrives h y d z) w'.1 arrives, (λ y i. unset y (ap w.fell w'.1 ∙ i))) in
              stmt_then C step State (Option Typed) (Never C step State (Option Typed)) (Left o f ns (in_case w term falls Cases v breaking m 0)) (At o f ns v.again) (Ended ns) (Next o f ns (in_case w term falls Cases v breaking m u)) 0 0 k d (arms_from p calls k rest) (in_braces (runs g.1) z)
              (g.3 d z on entry)
              (λ d z n. from_follows ts (update nat_eq fa u None) u apart.1 e (found_later fa u ts apart.0 all) d z n)
          by_pick true is (inr w') later = let never : true ≡ false = is ∙ w'.0 in cc
          by_pick false is (inl w') later = let never : false ≡ true = is ∙ w'.0 in cc
          by_pick false is (inr w') later = later (⊎_elim (λ same. absurd (w'.1 same)) (λ i. i) i)

    -- what breaks a switch, and what falls out of it, is behind it
    switch_then : (L A : C → State → Type 0) (Q : C → Option Typed → State → Type 0) (P : C → State → Type 0) (u : ℕ) (c : C) (x : Run) → ((d : C) (s : State) → L d s → P d s) → G (Never C step State (Option Typed)) L A Q 0 c x → G P (Never C step State (Option Typed)) A Q 0 c (behind_switch x)
    switch_then L A Q P u c (normal e s) n (inl l) = absurd l.holds
    switch_then L A Q P u c (breaks e s) n (inl l) = inl (record { to = l.to; comes = l.comes; holds = n l.to s l.holds })
    switch_then L A Q P u c (continues e s) n (inl l) = inl l
    switch_then L A Q P u c (returns e r s) n (inl l) = inl l
    switch_then L A Q P u c (cut e) n (inl l) = inl l
    switch_then L A Q P u c (waits e) n (inl l) = inl l
    switch_then L A Q P u c (stuck e) n (inl l) = absurd l
    switch_then L A Q P u c (normal e s) n (inr b) = inr b
    switch_then L A Q P u c (breaks e s) n (inr b) = inr b
    switch_then L A Q P u c (continues e s) n (inr b) = inr b
    switch_then L A Q P u c (returns e r s) n (inr b) = inr b
    switch_then L A Q P u c (cut e) n (inr b) = inr b
    switch_then L A Q P u c (waits e) n (inr b) = inr b
    switch_then L A Q P u c (stuck e) n (inr b) = inr b

    in_order_next : (ts : List ℕ) (u y : ℕ) → AreInOrder falls ts → In u ts → falls u ≡ Some y → In y ts
    in_order_next [] u y e i is = absurd i
    in_order_next (t ∷ []) u y e (inl same) is = none_some (sym e ∙ ap falls (sym same) ∙ is)
    in_order_next (t ∷ []) u y e (inr i) is = absurd i
    in_order_next (t ∷ j ∷ ts) u y e (inl same) is = ⊎_elim (λ never. none_some (sym never ∙ ap falls (sym same) ∙ is)) (λ to. inr (inl (same_Some _ _ (sym is ∙ ap falls same ∙ to)))) e.0
    in_order_next (t ∷ j ∷ ts) u y e (inr i) is = inr (in_order_next (j ∷ ts) u y e.1 i is)

    fresh_groups : (gs : Groups) (u : ℕ) (y : Text) → FreshGroups w term falls Cases y gs → In u (targets gs) → w.fell u ≡ Some y → ⊥
    fresh_groups none u y h i e = i
    fresh_groups (group t labels default x gs) u y h (inl same) e = h.0 (ap w.fell (sym same) ∙ e)
    fresh_groups (group t labels default x gs) u y h (inr i) e = fresh_groups gs u y h.2 i e

    fresh_bodies : (gs : Groups) (y : Text) → FreshGroups w term falls Cases y gs → FreshBodies w term falls Cases y gs
    fresh_bodies none y h = tt
    fresh_bodies (group t labels default x gs) y h = (h.1, fresh_bodies gs y h.2)

    fell_bodies : (all gs : Groups) (u : ℕ) (y : Text) → FellFresh w term falls Cases all gs → In u (targets gs) → w.fell u ≡ Some y → FreshBodies w term falls Cases y all
    fell_bodies all none u y h i e = absurd i
    fell_bodies all (group t labels default x gs) u y h (inl same) e = h.0 y (ap w.fell (sym same) ∙ e)
    fell_bodies all (group t labels default x gs) u y h (inr i) e = fell_bodies all gs u y h.1 i e

    -- a switch, from where its block ends
    switch_follows : (h : ℕ) (gs : Groups) (pl : Place) (o f : Flags) (ns : List (List Text)) (v : Ways) (m : Option ℕ) (c : C) (s : State) → Ready f v → Within o f → ((y : Text) (u : Option Bool) → f y ≡ Some u → FreshGroups w term falls Cases y gs)
        → term h ≡ table → Cases h gs → OutLeads w term falls Cases pl v (groups_have_break gs) → FellFresh w term falls Cases gs gs → IsOrder falls (w.order h) (targets gs) → AllOk o (fell_map f gs None) ns h pl v (groups_have_break gs) m gs → Stop h c s → K o f ns s
        → G (At o f ns m) (Left o f ns v) (At o f ns v.again) (Ended ns) 1 c (runs (fell_flags w gs ++ (tree.switch (w.condition h) (switch_arms h pl gs) ∷ behind_text w pl (groups_have_break gs))) s)
    switch_follows h gs pl o f ns v m c s ready within apart is cases out fells order all at on =
        fell_then (At o f ns m) (Left o f ns v) (At o f ns v.again) (Ended ns) gs o f ns 1 h c s (tree.switch (w.condition h) (switch_arms h pl gs) ∷ behind_text w pl (groups_have_break gs))
        (λ t y i e. none_or (o y) (λ u is. let q = within y u is in fresh_groups gs t y (apart y q.0 q.1) i e)) at on
        (λ z at on. by_table z on (ok.table_ok h gs pl c z is cases at))
      where
        breaking : Bool
        breaking = groups_have_break gs

        fg : Flags
        fg = fell_map f gs None

        f0 : Flags
        f0 = fell_map f gs (Some false)

        -- the flags of the cases are declared
        lesser : (z : State) → K o f0 ns z → K o fg ns z
        lesser z on = on_sub IsFlag o fg f0 ns z (λ y u e. by_way y u (fell_tells gs f None u y e) e) on
          where
            by_way : (y : Text) (u : Option Bool) → ((t : ℕ) × (In t (targets gs) × (w.fell t ≡ Some y))) ⊎ (f y ≡ Some u) → fg y ≡ Some u → (f0 y ≡ Some u) ⊎ ((u ≡ None) × ((r : Option Bool) × (f0 y ≡ Some r)))
            by_way y u (inl a) e = inr (same_Some _ _ (sym e ∙ fell_has gs f None a.0 y a.1.0 a.1.1), (Some false, fell_has gs f (Some false) a.0 y a.1.0 a.1.1))
            by_way y u (inr a) e = inl (fell_out gs f (Some false) y (apart y u a) ∙ a)

        -- what was known before is known behind
        back : (z : State) → K o fg ns z → K o f ns z
        back z on = on_sub IsFlag o f fg ns z (λ y u e. inl (fell_out gs f None y (apart y u e) ∙ e)) on

        at_back : (j : Option ℕ) (d : C) (z : State) → At o fg ns j d z → At o f ns j d z
        at_back j d z a = record { to = a.to; is = a.is; start = a.start; on = back z a.on }

        out_back : (d : C) (z : State) → Out o fg ns v.out d z → Out o f ns v.out d z
        out_back d z a = record { flag = a.flag; to = a.to; is = a.is; start = a.start; set = a.set; on = on_sub IsFlag o (upd f a.flag None) (upd fg a.flag None) ns z (λ y u e. inl (same y u (upd_tells f a.flag y None u e) e)) a.on }
          where
            same : (y : Text) (u : Option Bool) → ((a.flag ≡ y) × (None ≡ u)) ⊎ ((a.flag ≢ y) × (f y ≡ Some u)) → upd f a.flag None y ≡ Some u → upd fg a.flag None y ≡ Some u
            same y u (inl w') e = subst (λ j. upd fg a.flag None j ≡ Some u) w'.0 (upd_own fg a.flag None ∙ ap Some w'.1)
            same y u (inr w') e = upd_other fg a.flag y None w'.0 ∙ fell_out gs f None y (apart y u w'.1) ∙ w'.1

        L' : C → State → Type 0
        L' = Left o fg ns (in_case w term falls Cases v breaking m 0)

        Behind' : C → State → Type 0
        Behind' d z = At o fg ns m d z ⊎ Out o fg ns (out_if w term falls Cases v breaking) d z

        by_arms : (z : State) → K o f0 ns z → (t : ℕ) (q : List Label → Bool) → In t (targets gs) → Picks h t q gs → (d : C) → Arrives h t d z → G Behind' (Never C step State (Option Typed)) (At o fg ns v.again) (Ended ns) 0 d (behind_switch (arms_run p calls k (switch_arms h pl gs) q z))
        by_arms z on t q i picks d arrives =
            switch_then L' (At o fg ns v.again) (Ended ns) Behind' 0 d (arms_run p calls k (switch_arms h pl gs) q z) (λ d z l. l)
            (run_follows o fg ns h pl v breaking m t q (w.order h) (by_target (groups_text w (inside_switch pl) h gs)) order.apart order.falls_on
            (λ u i. find_group o fg ns h pl v breaking m t q gs (λ r. None) u all picks order.all_apart (order.in_all u i))
            (order.in_order t i) d z (lesser z on) arrives (λ y e. on.by y false (fell_has gs f (Some false) t y i e)))

        -- behind the switch
        rest_follows : (b : Bool) → breaking ≡ b → OutLeads w term falls Cases pl v b → (d : C) (z : State) → At o fg ns m d z ⊎ Out o fg ns (out_if w term falls Cases v b) d z → G (At o f ns m) (Left o f ns v) (At o f ns v.again) (Ended ns) 0 d (runs (behind_text w pl b) z)
        rest_follows false e ol d z (inl a) = inl (lands (λ d. At o f ns m d z) d (at_back m d z a))
        rest_follows false e ol d z (inr a) = none_some a.is
        rest_follows true e ol d z l =
            let flag_is : option_map_or w.leave pl.in_loop None ≡ Some ol.1 = ap (λ j. option_map_or w.leave j None) ol.3 ∙ ol.4 in
            subst (λ j. G (At o f ns m) (Left o f ns v) (At o f ns v.again) (Ended ns) 0 d (runs (leave_again j) z)) (sym flag_is) (by_side l)
          where
            l0 : Text
            l0 = ol.1

            leaving : List Stmt
            leaving = when (name l0) (stmts_in (tree.leave ∷ [])) ∷ []

            Goal : Run → Type 0
            Goal x = G (At o f ns m) (Left o f ns v) (At o f ns v.again) (Ended ns) 0 d x

            by_side : At o fg ns m d z ⊎ Out o fg ns v.out d z → Goal (runs leaving z)
            by_side (inl a) =
                let known : f l0 ≡ Some (Some false) = ready.out l0 ol.2 ol.5 in
                let off : Has l0 false z = (back z a.on).by l0 false known in
                normal_then (At o f ns m) (Left o f ns v) (At o f ns v.again) (Ended ns) 0 d (when (name l0) (stmts_in (tree.leave ∷ []))) [] z z (when_run (name l0) (stmts_in (tree.leave ∷ [])) z false (test_run z l0 false off))
                (inl (lands (λ d. At o f ns m d z) d (at_back m d z a)))
            by_side (inr a) =
                let same : a.flag ≡ l0 = ap (λ j. j.0) (same_Some _ _ (sym a.is ∙ ol.5)) in
                let set : Has l0 true z = subst (λ j. Has j true z) same a.set in
                let run : stmt_run p calls k (when (name l0) (stmts_in (tree.leave ∷ []))) z ≡ breaks [] z = when_run (name l0) (stmts_in (tree.leave ∷ [])) z true (test_run z l0 true set) in
                subst (λ x. Goal (then_do x (runs []))) (sym run) (inl (lands (λ d. Left o f ns v d z) d (inr (out_back d z a))))

        by_table : (z : State) → K o f0 ns z → (step c ≡ wrong) ⊎ ((t : ℕ) × (q : List Label → Bool) × In t (targets gs) × Picks h t q gs × (stmt_run p calls k (tree.switch (w.condition h) (switch_arms h pl gs)) z ≡ behind_switch (arms_run p calls k (switch_arms h pl gs) q z)) × Goes c (λ d. Arrives h t d z))
            → G (At o f ns m) (Left o f ns v) (At o f ns v.again) (Ended ns) 1 c (runs (tree.switch (w.condition h) (switch_arms h pl gs) ∷ behind_text w pl (groups_have_break gs)) z)
        by_table z on (inl e) = inr (fails_now C step c _ e)
        by_table z on (inr g) =
            subst (λ x. G (At o f ns m) (Left o f ns v) (At o f ns v.again) (Ended ns) 1 c (then_do x (runs (behind_text w pl breaking)))) (sym g.4)
            (after_going (At o f ns m) (Left o f ns v) (At o f ns v.again) (Ended ns) 0 c (then_do (behind_switch (arms_run p calls k (switch_arms h pl gs) g.1 z)) (runs (behind_text w pl breaking))) (λ d. Arrives h g.0 d z) g.5 (λ d arrives.
            stmt_then C step State (Option Typed) (At o f ns m) (Left o f ns v) (At o f ns v.again) (Ended ns) Behind' 0 0 k d (runs (behind_text w pl breaking)) (behind_switch (arms_run p calls k (switch_arms h pl gs) g.1 z))
            (mapped Behind' (Never C step State (Option Typed)) (At o fg ns v.again) Behind' (Left o f ns v) (At o f ns v.again) (Ended ns) (Ended ns) 0 d (behind_switch (arms_run p calls k (switch_arms h pl gs) g.1 z)) (λ d z n. n) (λ d z l. absurd l) (λ d z a. at_back v.again d z a) (λ d r z y. y)
            (by_arms z on g.0 g.1 g.2 g.3 d arrives))
            (λ d z l. rest_follows breaking refl out d z l)))

    ready_out : (b : Bool) (f : Flags) (gs : Groups) (v : Ways) → Ready f v → (l : Text) (to : ℕ) → out_if w term falls Cases v b ≡ Some (l, to) → ((y : Text) (u : Option Bool) → f y ≡ Some u → FreshGroups w term falls Cases y gs) → fell_map f gs None l ≡ Some (Some false)
    ready_out true f gs v ready l to e apart = let known = ready.out l to e in fell_out gs f None l (apart l (Some false) known) ∙ known
    ready_out false f gs v ready l to e apart = none_some e

    block_item : (x : Region) → IsBlock x → IsItem x
    block_item (ends e) h = absurd h
    block_item (item i r) h = tt

    item_apart : (f : Flags) (i : Item) (r : Region) → Apart f (item i r) → Apart f r
    item_apart f i r apart y u e = (apart y u e).1

    mutual
      pub region_follows : (r : Region) (pl : Place) (o f : Flags) (ns : List (List Text)) (v : Ways) (t : ℕ) → Ready f v → Within o f → Apart f r → Leads w term falls Cases r pl v t → (c : C) (s : State) → Start t c s → K o f ns s → F o f ns v (weight r) c (runs (rest_text pl r) s)
      region_follows (ends (Edge b e kind)) pl o f ns v t ready within apart h c s start on =
          subst (λ j. F o f ns v 0 c (runs (edge_text w pl j kind) s)) (sym h.0) (edge_follows kind pl o f ns v t c s ready (subst (λ j. EdgeLeads w term falls Cases v pl j kind) h.0 h.1) start on)
      region_follows (ends (Return b)) pl o f ns v t ready within apart h c s start on = absurd h
      region_follows (ends (Lost b)) pl o f ns v t ready within apart h c s start on = absurd h
      region_follows (ends Closed) pl o f ns v t ready within apart h c s start on = absurd h
      region_follows (item (plain b) r) pl o f ns v t ready within apart h c s start on =
          plain_follows (term b) b r pl o f ns v c s refl h.1 (subst (λ j. Start j c s) (sym h.0) start) on (λ q l d z start on. region_follows r pl o f ns v q ready within (item_apart f (plain b) r apart) l d z start on)
      region_follows (item (choose b x y) r) pl o f ns v t ready within apart h c s start on =
          let g = h.1 in
          let m : Option ℕ = g.7.0 in
          let vi : Ways = record v { normal = m; fall = None } in
          let readi : Ready f vi = record { out = ready.out; fall = λ q y e i. none_some e } in
          rest_then o f ns v m pl r 1 (item_text w pl (choose b x y)) c s
          (block_then (At o f ns m) (Left o f ns v) (At o f ns v.again) (Ended ns) o f ns 1 b c s ((conditional (w.condition b) (entering w b (w.target b 0) x ++ region_text w pl x) (entering w b (w.target b 1) y ++ region_text w pl y)) ∷ []) (subst (λ j. Start j c s) (sym h.0) start) on (λ d z at on.
          last_then (At o f ns m) (Left o f ns v) (At o f ns v.again) (Ended ns) 1 d (conditional (w.condition b) (entering w b (w.target b 0) x ++ region_text w pl x) (entering w b (w.target b 1) y ++ region_text w pl y)) z
          (mapped (Next o f ns vi) (Left o f ns v) (At o f ns v.again) (At o f ns m) (Left o f ns v) (At o f ns v.again) (Ended ns) (Ended ns) 1 d (stmt_run p calls k (conditional (w.condition b) (entering w b (w.target b 0) x ++ region_text w pl x) (entering w b (w.target b 1) y ++ region_text w pl y)) z) (λ d z n. ⊎_elim (λ a. a) (λ a. none_some a.is) n) (λ d z l. l) (λ d z a. a) (λ d r z q. q)
          (branch_then o f ns vi b g.0 g.1 pl x y d z readi g.2 g.3 g.4 g.5 g.6 at on
          (λ d q st kn. region_follows x pl f f (names_of z.frames) vi g.0 readi (same_within f) (λ y u e. (apart y u e).0.0) g.7.1 d q st kn)
          (λ d q st kn. region_follows y pl f f (names_of z.frames) vi g.1 readi (same_within f) (λ y u e. (apart y u e).0.1) g.7.2 d q st kn)))))
          g.7.3 (λ q l d z start on. region_follows r pl o f ns v q ready within (item_apart f (choose b x y) r apart) l d z start on)
      region_follows (item (loose b x y) r) pl o f ns v t ready within apart h c s start on =
          let g = h.1 in
          let first : F o f ns v 1 c (runs (item_text w pl (loose b x y)) s) =
          block_then (Next o f ns v) (Left o f ns v) (At o f ns v.again) (Ended ns) o f ns 1 b c s ((conditional (w.condition b) (entering w b (w.target b 0) x ++ region_text w pl x) (entering w b (w.target b 1) y ++ region_text w pl y)) ∷ []) (subst (λ j. Start j c s) (sym h.0) start) on (λ d z at on.
          last_then (Next o f ns v) (Left o f ns v) (At o f ns v.again) (Ended ns) 1 d (conditional (w.condition b) (entering w b (w.target b 0) x ++ region_text w pl x) (entering w b (w.target b 1) y ++ region_text w pl y)) z
          (branch_then o f ns v b g.0 g.1 pl x y d z ready g.2 g.3 g.4 g.5 g.6 at on
          (λ d q st kn. region_follows x pl f f (names_of z.frames) v g.0 ready (same_within f) (λ y u e. (apart y u e).0.0) g.7 d q st kn)
          (λ d q st kn. region_follows y pl f f (names_of z.frames) v g.1 ready (same_within f) (λ y u e. (apart y u e).0.1) g.8 d q st kn))) in
          subst (λ j. F o f ns v 1 c (runs (item_text w pl (loose b x y) ++ region_text w pl j) s)) (sym g.9)
          (subst (F o f ns v 1 c) (sym (append (item_text w pl (loose b x y)) [] s))
          (stmt_then C step State (Option Typed) (Next o f ns v) (Left o f ns v) (At o f ns v.again) (Ended ns) (Next o f ns v) 1 0 k c (runs []) (runs (item_text w pl (loose b x y)) s) first (λ d z n. inl (lands (λ d. Next o f ns v d z) d n))))
      region_follows (item (Rattle.structure_recover.specs.Tree.loop b x) r) pl o f ns v t ready within apart h c s start on =
          let g = h.4 in
          rest_then o f ns v g.0 pl r 0 (item_text w pl (Rattle.structure_recover.specs.Tree.loop b x)) c s
          (loop_follows b x o f ns g.0 v c s h.1 (block_item x h.1) h.2 (λ y u e. (apart y u e).0.0) within (subst (λ j. Start j c s) (sym h.0) start) on
          (λ ms d z st kn. region_follows x (inside_loop b false) (if_flag f (w.leave b) (Some false)) (if_flag f (w.leave b) (Some false)) ms (loop_ways b None g.0 (Some b)) b
          (loop_ready (if_flag f (w.leave b) (Some false)) b None g.0 (Some b) (λ l e. if_own f (w.leave b) l (Some false) e)) (same_within (if_flag f (w.leave b) (Some false)))
          (λ y u e. ⊎_elim (λ is. fresh_if (w.leave b) y x h.3 is) (λ was. (apart y u was).0.1) (if_tells f (w.leave b) y (Some false) u e)) g.1 d z st kn))
          g.2 (λ q l d z start on. region_follows r pl o f ns v q ready within (item_apart f (Rattle.structure_recover.specs.Tree.loop b x) r apart) l d z start on)
      region_follows (item (loop_on b y x) r) pl o f ns v t ready within apart h c s start on =
          let a : Text = h.2.0 in
          let g = h.2 in
          let m : Option ℕ = g.7.0 in
          let e : ℕ = g.7.1 in
          let f1 : Flags = upd f a (Some false) in
          let f3 : Flags = upd (if_flag f1 (w.leave b) (Some false)) a (Some true) in
          let known : (l : Text) → w.leave b ≡ Some l → f3 l ≡ Some (Some false) = λ l is. upd_other (if_flag f1 (w.leave b) (Some false)) a l (Some true) (λ same. g.2 (is ∙ ap Some (sym same))) ∙ if_own f1 (w.leave b) l (Some false) is in
          let fresh : (z : Region) → Fresh w term falls Cases a z → FreshIf w term falls Cases (w.leave b) z → ((q : Text) (u : Option Bool) → f q ≡ Some u → Fresh w term falls Cases q z) → Apart f3 z =
          λ z fa fl was q u is. ⊎_elim (λ s. subst (λ j. Fresh w term falls Cases j z) s.0 fa) (λ s. ⊎_elim (λ s. fresh_if (w.leave b) q z fl s) (λ s. ⊎_elim (λ s. subst (λ j. Fresh w term falls Cases j z) s.0 fa) (λ s. was q u s.1) (upd_tells f a q (Some false) u s)) (if_tells f1 (w.leave b) q (Some false) u s.1)) (upd_tells (if_flag f1 (w.leave b) (Some false)) a q (Some true) u is) in
          rest_then o f ns v m pl r 0 (item_text w pl (loop_on b y x)) c s
          (loop_on_follows b e a y x o f ns m v c s h.1 (block_item x h.1) g.7.2 g.1 g.2 (λ q u is. ((λ same. (apart q u is).0.0 (g.1 ∙ ap Some (sym same))), (apart q u is).0.1)) within (subst (λ j. Start j c s) (sym h.0) start) on
          (λ o wi ms d z st kn. region_follows y (inside_loop b true) o f3 ms (loop_ways b (Some b) m None) e (loop_ready f3 b (Some b) m None known) wi (fresh y g.3 g.5 (λ q u is. (apart q u is).0.2)) g.7.3 d z st kn)
          (λ o wi ms d z st kn. region_follows x (inside_loop b false) o f3 ms (loop_ways b None m (Some e)) b (loop_ready f3 b None m (Some e) known) wi (fresh x g.4 g.6 (λ q u is. (apart q u is).0.3)) g.7.4 d z st kn))
          g.7.5 (λ q l d z start on. region_follows r pl o f ns v q ready within (item_apart f (loop_on b y x) r apart) l d z start on)
      region_follows (item (switch b gs) r) pl o f ns v t ready within apart h c s start on =
          let m : Option ℕ = h.6.0 in
          let fg : Flags = fell_map f gs None in
          let fresh : (y : Text) (u : Option Bool) → fg y ≡ Some u → FreshBodies w term falls Cases y gs = λ y u e. ⊎_elim (λ a. fell_bodies gs gs a.0 y h.3 a.1.0 a.1.1) (λ was. fresh_bodies gs y (apart y u was).0) (fell_tells gs f None u y e) in
          let within_g : Within o fg = λ y u e. let q = within y u e in (q.0, fell_out gs f None y (apart y q.0 q.1).0 ∙ q.1) in
          let ready_g : (u : ℕ) → In u (targets gs) → Ready fg (in_case w term falls Cases v (groups_have_break gs) m u) =
          λ u i. record { out = λ l to e. ready_out (groups_have_break gs) f gs v ready l to e (λ y u e. (apart y u e).0); fall = λ to y e is. fell_has gs f None to y (h.4.in_all to (in_order_next (w.order b) u to h.4.falls_on (h.4.in_order u i) e)) is } in
          rest_then o f ns v m pl r 1 (item_text w pl (switch b gs)) c s
          (block_then (At o f ns m) (Left o f ns v) (At o f ns v.again) (Ended ns) o f ns 1 b c s (fell_flags w gs ++ (tree.switch (w.condition b) (switch_arms b pl gs) ∷ behind_text w pl (groups_have_break gs))) (subst (λ j. Start j c s) (sym h.0) start) on (λ d z at on.
          switch_follows b gs pl o f ns v m d z ready within (λ y u e. (apart y u e).0) h.1 h.5 h.2 h.3 h.4
          (groups_all gs pl o fg ns v (groups_have_break gs) m b ready_g within_g fresh h.6.1) at on))
          h.6.2 (λ q l d z start on. region_follows r pl o f ns v q ready within (item_apart f (switch b gs) r apart) l d z start on)

      groups_all : (gs : Groups) (pl : Place) (o f : Flags) (ns : List (List Text)) (v : Ways) (breaking : Bool) (m : Option ℕ) (h : ℕ) → ((u : ℕ) → In u (targets gs) → Ready f (in_case w term falls Cases v breaking m u)) → Within o f → ((y : Text) (u : Option Bool) → f y ≡ Some u → FreshBodies w term falls Cases y gs) → GroupsLead w term falls Cases gs h pl v breaking m → AllOk o f ns h pl v breaking m gs
      groups_all none pl o f ns v breaking m h ready within fresh l = tt
      groups_all (group u labels default x gs) pl o f ns v breaking m h ready within fresh l = (
        group_follows o f ns h u (inside_switch pl) (in_case w term falls Cases v breaking m u) x (ready u (inl refl)) l.0 l.1
            (λ ms d z st kn. region_follows x (inside_switch pl) f f ms (in_case w term falls Cases v breaking m u) u (ready u (inl refl)) (same_within f) (λ y j e. (fresh y j e).0) l.2 d z st kn),
        groups_all gs pl o f ns v breaking m h (λ u i. ready u (inr i)) within (λ y j e. (fresh y j e).1) l.3,
      )
