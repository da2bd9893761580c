-- What is written of the blocks of a planned function is as the tree of the function asks.
use Rattle.std.proofs.Common.{◌≡◌, ◌<◌, ◌≤◌, ◌+◌, ◌==◌, ◌&&◌, ℕ, zero, suc, Bool, true, false, List, [], ◌∷◌, length, filter, Option, Some, None, inl, inr, refl, sym, ap, ◌∙◌, if◌then◌else◌, arith}
use Rattle.std.specs.Prelude.{◌⊎◌, nat_lt, is_some, slice_get, slice_index}
use Rattle.std.specs.Option.{option_map_or}
use Rattle.std.specs.List.{range_with_len}
use Rattle.std.proofs.lemmas.Bool.{and_parts, or_from, or_left, or_right}
use Rattle.std.proofs.lemmas.Bool.Decides.{eqb_tells, nat_tests}
use Rattle.spv_ops.specs.Opcode.{is}
use Rattle.spv_ops.specs.declared.Op.TheVariants as code
use Rattle.spv_module.specs.declared.inst.Inst.{Inst}
use Rattle.spv_module.specs.declared.inst.Function.{Function}
use Rattle.spv_index.specs.Locals.{insts_of}
use Rattle.structure_rules.specs.declared.graph.Node.{Node}
use Rattle.structure_rules.specs.declared.graph.Exit.{Exit}
use Rattle.structure_rules.specs.declared.graph.Exit.TheVariants.{Branch, Conditional, Switch, Leave}
use Rattle.structure_rules.specs.Graph.{graph, nth, is_switch as is_plan_switch}
use Rattle.structure_recover.specs.declared.region.Exit.TheVariants.{Return, Lost}
use Rattle.structure_recover.specs.Follows.{target, left, left_by, last_inst}
use Rattle.block_graph.proofs.Within.{graph_sized}
use Rattle.nest_place.proofs.Outward.{reached_inside}
use Rattle.switch_ladder.specs.Ladder.{fallen_from}
use Rattle.switch_ladder.specs.Flags.{needs_again, needs_leave, needs_fell}
use Rattle.function_plan.specs.Phis.{phi_blocks}
use Rattle.function_plan.specs.Orders.{is_among, order_of, is_reached_switch}
use Rattle.function_plan.specs.Targets.{target_of}
use Rattle.name_alloc.specs.declared.claims.Key.TheVariants.{Again, Leave as LeaveKey, Fell}
use Rattle.glsl_ast.specs.Tree.{Text}
use Rattle.text_rules.specs.Constants.{Source}
use Rattle.function_text.specs.Functions.{FunctionPlan, label_of, when, blocks_of}
use Rattle.unit_rules.specs.Translation.{Naming, IsPlanOf}
use Rattle.list_law.proofs.Lists.{get_index, index_get}
use Rattle.agree_law.specs.Blocks.{IsOf}
use Rattle.tree_law.specs.Written.{FlagsApart, IsWritten}
use Rattle.typed_law.specs.Conforms.{IsFormed}
use Rattle.function_law.proofs.TreeWays.{AreGroups}
use Rattle.grammar_law.specs.Formed.{IsFormedFunction}
use Rattle.text_law.specs.Ends.{term_by, is_lost_block, term_of}
use Rattle.claim_law.proofs.Claim.Flags.{at_inside}
use Rattle.grammar_law.proofs.Formed.Blocks.{has_body}
use Rattle.grammar_law.proofs.Unit.Switching.{switch_exit}
use Rattle.text_law.proofs.Naming.Ends.{least_of, targets_of}

pub among_that : (test : ℕ → Bool) (n from b : ℕ) → test b ≡ true → from ≤ b → b < from + n → is_among (filter test (range_with_len from n)) b ≡ true
among_that test zero from b on low high = absurd (omega (arith, low, high))
among_that test (suc n) from b on low high = by_place (eqb_tells from b) (λ low high. among_that test n (from + 1) b on low high)
  where
    by_first : (t : Bool) → test from ≡ t → from ≡ b → (from == b) ≡ true → is_among (if t then from ∷ filter test (range_with_len (from + 1) n) else filter test (range_with_len (from + 1) n)) b ≡ true
    by_first true at same own = or_left (from == b) (is_among (filter test (range_with_len (from + 1) n)) b) own
    by_first false at same own = let never : true ≡ false = sym on ∙ (ap test (sym same) ∙ at) in cc

    by_later : (t : Bool) → is_among (filter test (range_with_len (from + 1) n)) b ≡ true → is_among (if t then from ∷ filter test (range_with_len (from + 1) n) else filter test (range_with_len (from + 1) n)) b ≡ true
    by_later true later = or_right (from == b) (is_among (filter test (range_with_len (from + 1) n)) b) later
    by_later false later = later

    by_place : (((from == b) ≡ true) × (from ≡ b)) ⊎ (((from == b) ≡ false) × (from ≡ b → ⊥)) → (from + 1 ≤ b → b < from + 1 + n → is_among (filter test (range_with_len (from + 1) n)) b ≡ true) → is_among (filter test (range_with_len from (suc n))) b ≡ true
    by_place (inl w) later = by_first (test from) refl w.1 w.0
    by_place (inr w) later =
        let above : from < b = less_of from b low w.1 in
        by_later (test from) (later (let next : from + 1 ≤ b = omega (arith, above) in next) (let end : b < from + 1 + n = omega (arith, high) in end))
      where
        less_of : (a c : ℕ) → a ≤ c → (a ≡ c → ⊥) → a < c
        less_of a c le ne = by_test (nat_lt a c) refl
          where
            by_test : (t : Bool) → nat_lt a c ≡ t → a < c
            by_test true e = grind (arith, nat_tests, e)
            by_test false e = absurd (ne (grind (arith, nat_tests, e, le)))

none_that : (test : ℕ → Bool) (xs : List ℕ) (b : ℕ) → test b ≡ false → is_among (filter test xs) b ≡ false
none_that test [] b off = refl
none_that test (x ∷ xs) b off = by_test (test x) refl (none_that test xs b off)
  where
    by_test : (t : Bool) → test x ≡ t → is_among (filter test xs) b ≡ false → is_among (if t then x ∷ filter test xs else filter test xs) b ≡ false
    by_test true at later = or_from (x == b) (is_among (filter test xs) b) (elim (eqb_tells x b) [ inl w ↦ (let never : true ≡ false = sym at ∙ (ap test w.1 ∙ off) in cc) | inr w ↦ w.0 ]) later
    by_test false at later = later

passes_that : (test : ℕ → Bool) (xs : List ℕ) (b : ℕ) → is_among (filter test xs) b ≡ true → test b ≡ true
passes_that test xs b on = by_test (test b) refl
  where
    by_test : (t : Bool) → test b ≡ t → test b ≡ true
    by_test true at = at
    by_test false at = let never : true ≡ false = sym on ∙ none_that test xs b at in cc

module _ (src : Source) (found : Naming) (f : Function) (form : IsFormedFunction f) (few : (i : Inst) → IsOf i (insts_of f) → IsFormed i) (plan : FunctionPlan) (planned : IsPlanOf src found f plan) where
  abbrev g : List Node
  g = graph f

  -- as many targets as the terminator leads to
  targets_least : (b : ℕ) → (nth g b).reached ≡ true → (e : Exit) → (nth g b).exit ≡ e → least_of e ≤ length (nth g b).targets
  targets_least b here e at =
      let inside : b < length f.blocks = (let less = reached_inside g b here in let size = graph_sized f in omega (arith, less, size)) in
      let block = at_inside f.blocks b inside in
      let o = has_body f form b block.0 block.1 here in
      targets_of f form few b o.0 o.1 e at

  target_is : (b k t : ℕ) → (nth g b).reached ≡ true → target g b k ≡ Some t → (blocks_of plan).target b k ≡ t
  target_is b k t here at =
      ap (λ (x : List Node). target_of x b k) planned.graph_is
      ∙ (ap (λ (r : Bool). slice_index (if r then (nth g b).targets else []) k) here ∙ get_index (nth g b).targets k t at)

  lost_of : (b : ℕ) → left f b ≡ Return b → is_lost_block f b ≡ false
  lost_of b e = by_inst (last_inst (slice_get f.blocks b)) e
    where
      by_inst : (x : Option Inst) → left_by b x ≡ Return b → option_map_or (λ (i : Inst). is i.op code.Unreachable) x false ≡ false
      by_inst None e = refl
      by_inst (Some i) e = by_test (is i.op code.Unreachable) e
        where
          by_test : (t : Bool) → (if t then Lost b else Return b) ≡ Return b → t ≡ false
          by_test true e = cc
          by_test false e = refl

  lost_by : (b : ℕ) → left f b ≡ Lost b → is_lost_block f b ≡ true
  lost_by b e = by_inst (last_inst (slice_get f.blocks b)) e
    where
      by_inst : (x : Option Inst) → left_by b x ≡ Lost b → option_map_or (λ (i : Inst). is i.op code.Unreachable) x false ≡ true
      by_inst None e = cc
      by_inst (Some i) e = by_test (is i.op code.Unreachable) e
        where
          by_test : (t : Bool) → (if t then Lost b else Return b) ≡ Lost b → t ≡ true
          by_test true e = refl
          by_test false e = cc

  ends_as : (b : ℕ) (e : Exit) → (nth g b).exit ≡ e → term_of f b ≡ term_by e (nth g b).targets (is_lost_block f b)
  ends_as b e at = ap (λ (x : Exit). term_by x (nth g b).targets (is_lost_block f b)) at

  again_on : (h : ℕ) → needs_again g h ≡ true → plan.again h ≡ true
  again_on h on =
      let inside = reached_inside g h (and_parts (nth g h).reached _ on).0 in
      planned.again_is h ∙ among_that (needs_again g) (length g) 0 h on (let low : 0 ≤ h = omega arith in low) (let high : h < 0 + length g = omega (arith, inside) in high)

  -- where flags are apart, and those by which loops are left are of headers of the function
  pub tree_written : FlagsApart (blocks_of plan) → ((h : ℕ) → needs_leave g h ≡ true → h < length g) → IsWritten f g (blocks_of plan) (term_of f) (AreGroups f)
  tree_written flags inside = record {
    target_is = target_is;
    jumps = λ b here exit.
        let some = targets_least b here Branch exit in
        (slice_index (nth g b).targets 0, index_get (nth g b).targets 0 some, ends_as b Branch exit);
    branches = λ b here exit.
        let some = targets_least b here Conditional exit in
        (slice_index (nth g b).targets 0, slice_index (nth g b).targets 1, index_get (nth g b).targets 0 (let one : 0 < length (nth g b).targets = omega (arith, some) in one), index_get (nth g b).targets 1 some, ends_as b Conditional exit);
    tables = λ b here on. ends_as b Switch (switch_exit (nth g b).exit on);
    returns = λ b here exit left. ends_as b Leave exit ∙ ap (term_by Leave (nth g b).targets) (lost_of b left);
    loses = λ b here exit left. ends_as b Leave exit ∙ ap (term_by Leave (nth g b).targets) (lost_by b left);
    order_is = λ h here on.
        let test : is_reached_switch (nth g h) ≡ true = ap (λ (r : Bool). r && is_plan_switch (nth g h).exit) here ∙ ap is_plan_switch (switch_exit (nth g h).exit on) in
        planned.order_is h ∙ ap (λ (t : Bool). if t then order_of g h else []) test;
    cases_are = λ h gs here on all follows. (all, follows);
    again = λ h on. (plan.scope.setting.key (Again (label_of plan h)), ap (λ (t : Bool). when t (plan.scope.setting.key (Again (label_of plan h)))) (again_on h on));
    no_again = λ h off. ap (λ (t : Bool). when t (plan.scope.setting.key (Again (label_of plan h)))) (planned.again_is h ∙ none_that (needs_again g) (range_with_len 0 (length g)) h off);
    leave = λ h on.
        let in_it = inside h on in
        (plan.scope.setting.key (LeaveKey (label_of plan h)), ap (λ (t : Bool). when t (plan.scope.setting.key (LeaveKey (label_of plan h)))) (planned.leave_is h ∙ among_that (needs_leave g) (length g) 0 h on (let low : 0 ≤ h = omega arith in low) (let high : h < 0 + length g = omega (arith, in_it) in high)));
    fell = λ t x is. fell_from t x (plan.fell t) refl is;
    flags = flags;
  }
    where
      fell_from : (t : ℕ) (x : Text) (b : Bool) → plan.fell t ≡ b → when b (plan.scope.setting.key (Fell (label_of plan t))) ≡ Some x → is_some (fallen_from g t) ≡ true
      fell_from t x true on is = (and_parts (is_some (fallen_from g t)) _ (passes_that (needs_fell g (phi_blocks plan.scope.form f)) (range_with_len 0 (length g)) t (sym (planned.fell_is t) ∙ on))).0
      fell_from t x false on is = cc
