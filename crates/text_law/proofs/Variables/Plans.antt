-- What the tree of a planned function declares with a value: its results of the form Local, its flags, and the spares of its edges.
use Rattle.std.proofs.Common.{◌≡◌, ◌+◌, ◌<◌, ◌==◌, ◌&&◌, ℕ, Bool, true, false, List, [], ◌∷◌, ◌++◌, length, map, filter, Option, Some, None, inl, inr, refl, sym, ap, ◌∙◌, arith, if◌then◌else◌}
use Rattle.std.specs.Prelude.{flat_map, slice_get, is_some}
use Rattle.std.specs.Option.{option_map_or}
use Rattle.std.specs.List.{enumerate_from, list_any, range_with_len}
use Rattle.spv_module.specs.Lists.{id}
use Rattle.spv_module.specs.declared.inst.Id.{Id as IdOf}
use Rattle.spv_module.specs.declared.inst.Inst.{Inst}
use Rattle.spv_module.specs.declared.inst.Block.{Block}
use Rattle.spv_module.specs.declared.inst.Function.{Function}
use Rattle.structure_rules.specs.declared.graph.Exit.{Exit as Terminator}
use Rattle.structure_rules.specs.declared.graph.Exit.TheVariants as terminator
use Rattle.structure_rules.specs.declared.graph.Node.{Node}
use Rattle.structure_rules.specs.Graph.{graph, nth, is_switch, leads_to}
use Rattle.block_graph.proofs.Within.{graph_sized}
use Rattle.nest_place.specs.Nests.{IsSound}
use Rattle.structure_recover.specs.declared.region.Exit.TheVariants.{Closed}
use Rattle.structure_recover.specs.declared.edges.Start.TheVariants.{Block as AtBlock}
use Rattle.structure_recover.specs.declared.edges.Next.TheVariants.{At, Stop}
use Rattle.structure_recover.specs.Tree.{Region}
use Rattle.structure_recover.specs.Follows.{heads_loop, target, switch_targets, Follows, first, IsTree}
use Rattle.structure_recover.specs.Once.{Around, round, stands}
use Rattle.structure_recover.proofs.Counting.{kid_sum}
use Rattle.structure_recover.proofs.Shape.{first_reached}
use Rattle.structure_recover.proofs.Standing.{tree_once}
use Rattle.switch_ladder.specs.Ladder.{fallen_from}
use Rattle.switch_ladder.specs.Flags.{needs_again, needs_leave, needs_fell}
use Rattle.region_law.specs.Leads.{In}
use Rattle.phi_copies.specs.declared.moves.Move.{Move}
use Rattle.phi_copies.specs.declared.moves.Move.TheVariants.{Set, Save, Restore}
use Rattle.name_alloc.specs.declared.claims.Key.{Key}
use Rattle.name_alloc.specs.declared.claims.Key.TheVariants.{Id, Again, Leave, Fell, Spare}
use Rattle.glsl_ast.specs.Tree.{Text}
use Rattle.control_text.specs.Statements.{Blocks, function_text}
use Rattle.text_rules.specs.Claims.{label}
use Rattle.expr_forward.specs.Kinds.{kind_of}
use Rattle.expr_forward.specs.Statements.{inst_text, block_text}
use Rattle.function_plan.specs.Phis.{phi_blocks}
use Rattle.function_text.specs.Functions.{FunctionPlan, written, when, move_text, blocks_of}
use Rattle.grammar_law.proofs.Unit.Lists.{of_numbered_first}
use Rattle.claim_law.specs.Claimed.{IsIn}
use Rattle.text_law.specs.Declarations.{occurs}
use Rattle.text_law.specs.Variables.{of_result, is_local_here, locals_of, locals, flag_key, flags, all_flags}
use Rattle.text_law.proofs.Variables.Texts.{times_in}
use Rattle.text_law.proofs.Variables.Sums.{sum_same, sum_both}
use Rattle.text_law.proofs.Variables.Totals.{weighed, if_reached, tree_weighed}
use Rattle.text_law.proofs.Variables.Regions.{IsTold, of_block, of_edge, of_flag, of_fell, to_target, of_exit, of_loop, weight, weights, region_times}
use Rattle.text_law.proofs.Variables.Blocks.{IsSet, insts_times}
use Rattle.text_law.proofs.Variables.Loops.{again_header, leave_header}
use Rattle.text_law.proofs.Variables.Falls.{sum_filtered, of_switch, falls_once}

-- names of lists of keys
module _ (x : Text) (name : Key → Text) where
  abbrev pub count : List Key → ℕ
  count ks = occurs x (map name ks)

  pub count_both : (ks js : List Key) → count (ks ++ js) ≡ count ks + count js
  count_both [] js = omega arith
  count_both (k ∷ ks) js = let rest = count_both ks js in omega (arith, rest)

  pub count_numbers : (h : ℕ → List Key) (ts : List ℕ) → count (flat_map h ts) ≡ kid_sum (λ t. count (h t)) ts
  count_numbers h [] = refl
  count_numbers h (t ∷ ts) = let b = count_both (h t) (flat_map h ts) in let d = count_numbers h ts in omega (arith, b, d)

  pub count_mapped : (h : ℕ → Key) (ts : List ℕ) → count (map h ts) ≡ kid_sum (λ t. count (h t ∷ [])) ts
  count_mapped h [] = refl
  count_mapped h (t ∷ ts) = let d = count_mapped h ts in omega (arith, d)

  -- of the blocks of a function, with their numbers
  pub count_blocks : (h : ℕ × Block → List Key) (v : ℕ → ℕ) (bs : List Block) (from : ℕ) → ((b : ℕ × Block) → IsIn b (enumerate_from from bs) → count (h b) ≡ v b.0) → count (flat_map h (enumerate_from from bs)) ≡ kid_sum v (range_with_len from (length bs))
  count_blocks h v [] from each = refl
  count_blocks h v (b ∷ bs) from each =
      let c = count_both (h (from, b)) (flat_map h (enumerate_from (from + 1) bs)) in
      let d : count (h (from, b)) ≡ v from = each (from, b) (inl refl) in
      let e = count_blocks h v bs (from + 1) (λ q i. each q (inr i)) in
      omega (arith, c, d, e)

-- where control begins
tree_times : (x : Text) (f : Function) (g : List Node) (w : Blocks) (sound : IsSound g) → IsTold f g w → (r : Region) → Follows f g r (first g) → (0 < length g → (nth g 0).reached ≡ true) → times_in x (function_text w r) ≡ weights x f g w (stands [] r)
tree_times x f [] w sound told r follows here =
    let a = region_times x f [] w sound told (record { in_loop = None; continues = false; in_switch = false }) r (Stop Closed) [] [] follows tt in
    omega (arith, a)
tree_times x f (n ∷ ns) w sound told r follows here =
    let a = region_times x f (n ∷ ns) w sound told (record { in_loop = None; continues = false; in_switch = false }) r (At (AtBlock 0)) (round (n ∷ ns) 0) [] follows (here (omega arith), refl) in
    omega (arith, a)

weights_are : (x : Text) (f : Function) (g : List Node) (w : Blocks) (ss : List (ℕ × List Around)) → weights x f g w ss ≡ weighed (weight x f g w) ss
weights_are x f g w [] = refl
weights_are x f g w (s ∷ ss) = ap (λ (n : ℕ). weight x f g w s.0 + n) (weights_are x f g w ss)

-- what is known of a planned function
pub record IsKnown (p : FunctionPlan) : Type 0 where
  pub tree : IsTree (written p) p.region
  pub sound : IsSound (graph (written p))
  pub told : IsTold (written p) (graph (written p)) (blocks_of p)
  pub sets : (b : ℕ) (block : Block) → slice_get (written p).blocks b ≡ Some block → (i : Inst) → IsIn i block.insts → IsSet p.scope i (kind_of i.op)
  pub again_is : (b : ℕ) → In b (range_with_len 0 (length (graph (written p)))) → p.again b ≡ needs_again (graph (written p)) b
  pub leave_is : (b : ℕ) → In b (range_with_len 0 (length (graph (written p)))) → p.leave b ≡ needs_leave (graph (written p)) b
  pub fell_is : (b : ℕ) → In b (range_with_len 0 (length (graph (written p)))) → p.fell b ≡ needs_fell (graph (written p)) (phi_blocks p.scope.form (written p)) b

module _ (p : FunctionPlan) where
  abbrev f : Function
  f = written p

  abbrev g : List Node
  g = graph f

  abbrev all : List ℕ
  all = range_with_len 0 (length g)

  -- the spares of an edge, of the edges that leave a block, and of all
  abbrev pub spare_of_move : ℕ → ℕ → Move → List Key
  spare_of_move b t (Set v s) = []
  spare_of_move b t (Save k v) = Spare (id (label f b)) (id (label f t)) k ∷ []
  spare_of_move b t (Restore v k) = []

  abbrev pub edge_spares : ℕ → ℕ → List Key
  edge_spares b t = flat_map (spare_of_move b t) (p.moves b t)

  abbrev pub to_spares : ℕ → Option ℕ → List Key
  to_spares b None = []
  to_spares b (Some t) = edge_spares b t

  abbrev pub exit_spares : ℕ → Terminator → List Key
  exit_spares b terminator.Branch = to_spares b (target g b 0)
  exit_spares b terminator.Conditional = to_spares b (target g b 0) ++ to_spares b (target g b 1)
  exit_spares b terminator.Switch = flat_map (edge_spares b) (switch_targets g b)
  exit_spares b terminator.Leave = []

  abbrev pub block_spares : ℕ → List Key
  block_spares b = if (nth g b).reached then exit_spares b (nth g b).exit else []

  abbrev pub spares : List Key
  spares = flat_map block_spares all

  module _ (known : IsKnown p) (x : Text) where
    abbrev name : Key → Text
    name = p.scope.setting.key

    abbrev w : Blocks
    w = blocks_of p

    moves_count : (b t : ℕ) (ms : List Move) → times_in x (map (move_text p b t) ms) ≡ count x name (flat_map (spare_of_move b t) ms)
    moves_count b t [] = refl
    moves_count b t (Set v s ∷ ms) = moves_count b t ms
    moves_count b t (Restore v k ∷ ms) = moves_count b t ms
    moves_count b t (Save k v ∷ ms) = let rest = moves_count b t ms in omega (arith, rest)

    edge_count : (b t : ℕ) → of_edge x f g w b t ≡ count x name (edge_spares b t)
    edge_count b t = moves_count b t (p.moves b t)

    to_count : (b : ℕ) (o : Option ℕ) → to_target x f g w b o ≡ count x name (to_spares b o)
    to_count b None = refl
    to_count b (Some t) = edge_count b t

    -- at an exit: the spares, and of a switch the flags of its targets
    abbrev fell_part : ℕ → ℕ
    fell_part = of_switch g (of_fell x f g w)

    exit_count : (b : ℕ) → of_exit x f g w b (nth g b).exit ≡ count x name (exit_spares b (nth g b).exit) + fell_part b
    exit_count b = by_exit (nth g b).exit
      where
        by_exit : (e : Terminator) → of_exit x f g w b e ≡ count x name (exit_spares b e) + (if is_switch e then kid_sum (of_fell x f g w) (switch_targets g b) else 0)
        by_exit terminator.Branch = let a = to_count b (target g b 0) in omega (arith, a)
        by_exit terminator.Conditional =
            let a = to_count b (target g b 0) in
            let c = to_count b (target g b 1) in
            let d = count_both x name (to_spares b (target g b 0)) (to_spares b (target g b 1)) in
            omega (arith, a, c, d)
        by_exit terminator.Switch =
            let a = sum_same (of_edge x f g w b) (λ t. count x name (edge_spares b t)) (switch_targets g b) (λ t i. edge_count b t) in
            let c = count_numbers x name (edge_spares b) (switch_targets g b) in
            omega (arith, a, c)
        by_exit terminator.Leave = refl

    -- a flag is declared where it is needed
    abbrev flag_part : (ℕ → Bool) → (IdOf → Key) → ℕ → ℕ
    flag_part needs key b = if needs b then count x name (flag_key [] f p.scope.form p.scope.carried key b ∷ []) else 0

    flag_count : (q : Bool) (y : Text) → of_flag x f g w (when q y) ≡ (if q then occurs x (y ∷ []) else 0)
    flag_count true y = omega arith
    flag_count false y = refl

    loop_count : (b : ℕ) → In b all → if_reached g (of_loop x f g w) b ≡ flag_part (needs_again g) Again b + flag_part (needs_leave g) Leave b
    loop_count b i =
        let a : of_flag x f g w (w.again b) ≡ flag_part (needs_again g) Again b = flag_count (p.again b) (name (Again (id (label f b)))) ∙ ap (λ (q : Bool). if q then occurs x (name (Again (id (label f b))) ∷ []) else 0) (known.again_is b i) in
        let c : of_flag x f g w (w.leave b) ≡ flag_part (needs_leave g) Leave b = flag_count (p.leave b) (name (Leave (id (label f b)))) ∙ ap (λ (q : Bool). if q then occurs x (name (Leave (id (label f b))) ∷ []) else 0) (known.leave_is b i) in
        by_both (nth g b).reached (heads_loop g b) (needs_again g b) (needs_leave g b) (λ on. (again_header g b on).reached) (λ on. (again_header g b on).heads) (λ on. (leave_header g known.sound b on).reached) (λ on. (leave_header g known.sound b on).heads) a c
      where
        by_both : (r h a l : Bool) → (a ≡ true → r ≡ true) → (a ≡ true → h ≡ true) → (l ≡ true → r ≡ true) → (l ≡ true → h ≡ true)
            → of_flag x f g w (w.again b) ≡ (if a then count x name (Again (id (label f b)) ∷ []) else 0) → of_flag x f g w (w.leave b) ≡ (if l then count x name (Leave (id (label f b)) ∷ []) else 0)
            → (if r then (if h then of_flag x f g w (w.again b) + of_flag x f g w (w.leave b) else 0) else 0) ≡ (if a then count x name (Again (id (label f b)) ∷ []) else 0) + (if l then count x name (Leave (id (label f b)) ∷ []) else 0)
        by_both true true a l ar ah lr lh e k = omega (arith, e, k)
        by_both false h false false ar ah lr lh e k = refl
        by_both true false false false ar ah lr lh e k = refl
        by_both false h true l ar ah lr lh e k = let never : false ≡ true = ar refl in cc
        by_both false h false true ar ah lr lh e k = let never : false ≡ true = lr refl in cc
        by_both true false true l ar ah lr lh e k = let never : false ≡ true = ah refl in cc
        by_both true false false true ar ah lr lh e k = let never : false ≡ true = lh refl in cc

    abbrev fell_needed : ℕ → ℕ
    fell_needed = flag_part (needs_fell g (phi_blocks p.scope.form f)) Fell

    fell_count : (t : ℕ) → In t all → of_fell x f g w t ≡ fell_needed t
    fell_count t i = flag_count (p.fell t) (name (Fell (id (label f t)))) ∙ ap (λ (q : Bool). if q then occurs x (name (Fell (id (label f t))) ∷ []) else 0) (known.fell_is t i)

    fell_none : (t : ℕ) → fallen_from g t ≡ None → fell_needed t ≡ 0
    fell_none t none = ap (λ (o : Option ℕ). if is_some o && list_any (λ b. b == t) (phi_blocks p.scope.form f) then count x name (Fell (id (label f t)) ∷ []) else 0) none

    within_all : (q : ℕ → Bool) (ts : List ℕ) (t : ℕ) → In t (filter q ts) → In t ts
    within_all q [] t there = absurd there
    within_all q (u ∷ ts) t there = by_test (q u) there (within_all q ts t)
      where
        by_test : (b : Bool) → In t (if b then u ∷ filter q ts else filter q ts) → (In t (filter q ts) → In t ts) → In t (u ∷ ts)
        by_test true (inl same) rest = inl same
        by_test true (inr later) rest = inr (rest later)
        by_test false later rest = inr (rest later)

    switch_count : (h : ℕ) → if_reached g fell_part h ≡ if_reached g (of_switch g fell_needed) h
    switch_count h = by_tests (nth g h).reached (is_switch (nth g h).exit)
      where
        same : kid_sum (of_fell x f g w) (switch_targets g h) ≡ kid_sum fell_needed (switch_targets g h)
        same = sum_same (of_fell x f g w) fell_needed (switch_targets g h) (λ t i. fell_count t (within_all (λ t. leads_to t (nth g h)) all t i))

        by_tests : (a b : Bool) → (if a then (if b then kid_sum (of_fell x f g w) (switch_targets g h) else 0) else 0) ≡ (if a then (if b then kid_sum fell_needed (switch_targets g h) else 0) else 0)
        by_tests true true = same
        by_tests true false = refl
        by_tests false b = refl

    -- flags of one kind
    flags_count : (needs : ℕ → Bool) (key : IdOf → Key) → kid_sum (flag_part needs key) all ≡ count x name (flags [] f p.scope.form p.scope.carried key needs)
    flags_count needs key =
        sym (sum_filtered (λ b. count x name (flag_key [] f p.scope.form p.scope.carried key b ∷ [])) needs all)
        ∙ sym (count_mapped x name (flag_key [] f p.scope.form p.scope.carried key) (filter needs all))

    -- results of blocks
    block_count : (b : ℕ × Block) → IsIn b (enumerate_from 0 f.blocks) → count x name (locals_of [] f p.scope.form p.scope.carried b) ≡ if_reached g (of_block x f g w) b.0
    block_count b there = by_reached (nth g b.0).reached
      where
        at : slice_get f.blocks b.0 ≡ Some b.1
        at = of_numbered_first f.blocks b.0 b.1 there

        as_names : (is : List Inst) → count x name (map of_result is) ≡ occurs x (map (λ (i : Inst). name (Id (id i.result))) is)
        as_names [] = refl
        as_names (i ∷ is) = let rest = as_names is in omega (arith, rest)

        whole : times_in x (block_text p.scope b.0) ≡ occurs x (map (λ (i : Inst). name (Id (id i.result))) (filter (is_local_here [] f p.scope.form p.scope.carried) b.1.insts))
        whole =
            ap (λ (o : Option Block). times_in x (flat_map (λ (i : Inst). inst_text p.scope b.0 i (kind_of i.op)) (option_map_or (λ (c : Block). c.insts) o []))) at
            ∙ insts_times x p.scope b.0 b.1.insts (known.sets b.0 b.1 at)

        by_reached : (q : Bool) → count x name (if q then map of_result (filter (is_local_here [] f p.scope.form p.scope.carried) b.1.insts) else []) ≡ (if q then of_block x f g w b.0 else 0)
        by_reached true = as_names (filter (is_local_here [] f p.scope.form p.scope.carried) b.1.insts) ∙ sym whole
        by_reached false = refl

    locals_count : count x name (locals [] f p.scope.form p.scope.carried) ≡ kid_sum (if_reached g (of_block x f g w)) all
    locals_count =
        count_blocks x name (locals_of [] f p.scope.form p.scope.carried) (if_reached g (of_block x f g w)) f.blocks 0 block_count
        ∙ ap (λ (n : ℕ). kid_sum (if_reached g (of_block x f g w)) (range_with_len 0 n)) (sym (graph_sized f))

    spares_count : count x name spares ≡ kid_sum (λ b. count x name (block_spares b)) all
    spares_count = count_numbers x name block_spares all

    -- what a block counts, in three parts
    in_parts : (b : ℕ) → In b all → if_reached g (weight x f g w) b
        ≡ if_reached g (of_block x f g w) b + ((count x name (block_spares b) + if_reached g (of_switch g fell_needed) b) + (flag_part (needs_again g) Again b + flag_part (needs_leave g) Leave b))
    in_parts b i =
        let a = loop_count b i in
        let c = switch_count b in
        let d = exit_count b in
        let e = by_reached (nth g b).reached d in
        omega (arith, a, c, e)
      where
        by_reached : (q : Bool) → of_exit x f g w b (nth g b).exit ≡ count x name (exit_spares b (nth g b).exit) + fell_part b
            → (if q then weight x f g w b else 0) ≡ (if q then of_block x f g w b else 0) + ((count x name (if q then exit_spares b (nth g b).exit else []) + (if q then fell_part b else 0)) + (if q then of_loop x f g w b else 0))
        by_reached true d = omega (arith, d)
        by_reached false d = refl

    -- The law of the tree.
    pub tree_declares : times_in x (function_text w p.region) ≡ count x name (locals [] f p.scope.form p.scope.carried ++ (all_flags [] f p.scope.form p.scope.carried ++ spares))
    tree_declares =
        let t1 = tree_times x f g w known.sound known.told p.region known.tree (λ some. first_reached f some) in
        let t2 = weights_are x f g w (stands [] p.region) in
        let t3 = tree_weighed g p.region (weight x f g w) (tree_once f g p.region known.sound refl known.tree) in
        let v1 : ℕ → ℕ = if_reached g (of_block x f g w) in
        let v2 : ℕ → ℕ = λ b. count x name (block_spares b) in
        let v3 : ℕ → ℕ = if_reached g (of_switch g fell_needed) in
        let v4 : ℕ → ℕ = flag_part (needs_again g) Again in
        let v5 : ℕ → ℕ = flag_part (needs_leave g) Leave in
        let t4 = sum_same (if_reached g (weight x f g w)) (λ b. v1 b + ((v2 b + v3 b) + (v4 b + v5 b))) all in_parts in
        let s1 = sum_both v1 (λ b. (v2 b + v3 b) + (v4 b + v5 b)) all in
        let s2 = sum_both (λ b. v2 b + v3 b) (λ b. v4 b + v5 b) all in
        let s3 = sum_both v2 v3 all in
        let s4 = sum_both v4 v5 all in
        let l = locals_count in
        let c2 = spares_count in
        let c3 = falls_once g known.sound fell_needed fell_none in
        let f1 = flags_count (needs_again g) Again in
        let f2 = flags_count (needs_leave g) Leave in
        let f3 = flags_count (needs_fell g (phi_blocks p.scope.form f)) Fell in
        let j1 = count_both x name (locals [] f p.scope.form p.scope.carried) (all_flags [] f p.scope.form p.scope.carried ++ spares) in
        let j2 = count_both x name (all_flags [] f p.scope.form p.scope.carried) spares in
        let j3 = count_both x name (flags [] f p.scope.form p.scope.carried Again (needs_again g)) (flags [] f p.scope.form p.scope.carried Leave (needs_leave g) ++ flags [] f p.scope.form p.scope.carried Fell (needs_fell g (phi_blocks p.scope.form f))) in
        let j4 = count_both x name (flags [] f p.scope.form p.scope.carried Leave (needs_leave g)) (flags [] f p.scope.form p.scope.carried Fell (needs_fell g (phi_blocks p.scope.form f))) in
        omega (arith, t1, t2, t3, t4, s1, s2, s3, s4, l, c2, c3, f1, f2, f3, j1, j2, j3, j4)
