-- The pointers that live instructions of a reached block mention are written of words that are declared.
use Rattle.std.proofs.Common.{◌≡◌, ◌+◌, ◌<◌, ◌++◌, ◌==◌, ◌&&◌, ◌||◌, not, ℕ, zero, suc, Bool, true, false, List, [], ◌∷◌, append-nil, append_assoc, length, Option, Some, None, unwrap_or, inl, inr, refl, sym, ap, ◌∙◌, subst, arith, if◌then◌else◌}
use Rattle.std.specs.Prelude.{◌⊎◌, slice_get, slice_index, slice_index_or, option_and_then}
use Rattle.std.specs.Option.{option_map_or}
use Rattle.std.proofs.lemmas.Bool.Decides.{eqb_tells}
use Rattle.std.proofs.lemmas.Bool.{and_from, or_right}
use Rattle.spv_ops.specs.Opcode.{is}
use Rattle.spv_ops.specs.Operands.{is_id}
use Rattle.spv_ops.specs.Groups.{is_chain, is_constant}
use Rattle.spv_ops.specs.declared.Op.TheVariants as code
use Rattle.spv_module.specs.Held.{global}
use Rattle.spv_module.specs.Lists.{id}
use Rattle.spv_module.specs.declared.inst.Inst.{Inst}
use Rattle.spv_module.specs.declared.inst.Block.{Block}
use Rattle.spv_module.specs.declared.inst.Function.{Function}
use Rattle.spv_types.specs.Tree.{Tree}
use Rattle.spv_types.specs.Types.{type_tree}
use Rattle.spv_index.specs.Locals.{insts_of, type_in}
use Rattle.spv_index.specs.Pointers.{pointee, pointee_of}
use Rattle.profile_rules.specs.TypeRows.{is_pointer, fails}
use Rattle.profile_rules.specs.ValueRules.{breaks_t6}
use Rattle.conformance.specs.Rules.{Options}
use Rattle.module_semantics.specs.Setting.{Setting}
use Rattle.use_chains.specs.Slots.{inst_at, is_base, is_slot, is_value, is_taken, is_label_reached, IsLive}
use Rattle.use_chains.specs.Links.{Link}
use Rattle.hoist_plan.specs.Plan.{Placed, results, mentions_of}
use Rattle.name_alloc.specs.declared.claims.Key.TheVariants.{Id}
use Rattle.name_alloc.specs.Naming.{name_of}
use Rattle.glsl_ast.specs.Tree.{Text, Expr, name, TranslationUnit}
use Rattle.text_rules.specs.Constants.{Source, constant_expr}
use Rattle.text_items.specs.Globals.{global_by}
use Rattle.access_paths.specs.Ways.{base, indexes, is_constant_index, spot_of}
use Rattle.expr_forward.specs.Scope.{Scope, type_of}
use Rattle.expr_forward.specs.Paths.{index_expr, base_text}
use Rattle.function_text.specs.Functions.{FunctionPlan}
use Rattle.unit_rules.specs.Translation.{text_of, id_text}
use Rattle.unit_rules.specs.Unit.{IsUnitOf}
use Rattle.list_law.proofs.Lists.{behind_first}
use Rattle.list_law.proofs.Numbers.{number_same}
use Rattle.list_law.proofs.Tests.{first_by, clash}
use Rattle.plan_law.specs.Ordered.{AreOrdered}
use Rattle.plan_law.proofs.Order.{in_order}
use Rattle.global_law.specs.Chains.{ChainsRise, NoneMakes}
use Rattle.type_law.proofs.Chains.{HaveTypes}
use Rattle.claim_law.specs.Uses.{Words, UsesExpr}
use Rattle.typed_law.specs.Conforms.{IsConforming}
use Rattle.claim_law.specs.Claimed.{IsIn}
use Rattle.grammar_law.specs.Mentioned.{IsMentioned, IsLinked, IsCaptured}
use Rattle.grammar_law.specs.Words.{is_struct_key, words_of, AreOfStructs}
use Rattle.grammar_law.proofs.Unit.Lists.{at_some, as_among, in_block, split_at}
use Rattle.grammar_law.proofs.Unit.Links.{as_linked, link_at, placed_in, linked_user, link_stands, linked_live}
use Rattle.grammar_law.proofs.Unit.Forms.{placed, is_placed}
use Rattle.grammar_law.proofs.Unit.Ways.{HaveKinds, S, F, R, V, plan_is, ordered}
use Rattle.grammar_law.proofs.Unit.Steps.{HasMembers}
use Rattle.grammar_law.proofs.Unit.Chains.{HasWay, AreWritable, start_has, chain_has}
use Rattle.grammar_law.proofs.Unit.Sets.{chain_id, chain_value, chain_no_phi, index_uses}
use Rattle.grammar_law.proofs.Unit.Kept.{here_writable, kept_writable}
use Rattle.grammar_law.proofs.Unit.Carried.{carried_by_use}
use Rattle.grammar_law.proofs.Unit.Bases.{base_carried, carried_at}

-- chains that make a pointer
module _ (n : ℕ) where
  abbrev pub Found : List Inst → Type 0
  Found is = ((j : Inst) × (IsIn j is × (is_chain j.op ≡ true) × (j.result ≡ n))) ⊎ NoneMakes n is

  pub makes_in : (is : List Inst) → Found is
  makes_in [] = inr tt
  makes_in (i ∷ is) = by_chain (is_chain i.op) refl (makes_in is)
    where
      later : (is_chain i.op ≡ true → i.result ≡ n → ⊥) → Found is → Found (i ∷ is)
      later off (inl w) = inl (w.0, (inr w.1.0, w.1.1, w.1.2))
      later off (inr none) = inr (off, none)

      by_chain : (b : Bool) → is_chain i.op ≡ b → Found is → Found (i ∷ is)
      by_chain false off rest = later (λ on. clash (sym on ∙ off)) rest
      by_chain true on rest = elim (eqb_tells i.result n) [
        | inl w ↦ inl (i, (inl refl, on, w.1))
        | inr w ↦ later (λ same_on. w.1) rest
      ]

  none_joined : (front back : List Inst) → NoneMakes n front → NoneMakes n back → NoneMakes n (front ++ back)
  none_joined [] back one two = two
  none_joined (i ∷ is) back one two = (one.0, none_joined is back one.1 two)

rise_at : (xs : List Inst) (i : Inst) (ys : List Inst) → ChainsRise (xs ++ i ∷ ys) → is_chain i.op ≡ true → NoneMakes (base i) (i ∷ ys)
rise_at [] i ys rise on = (rise.0 on).0
rise_at (x ∷ xs) i ys rise on = rise_at xs i ys rise.1 on

pub in_middle : (xs : List Inst) (i : Inst) (ys : List Inst) → IsIn i (xs ++ i ∷ ys)
in_middle [] i ys = inl refl
in_middle (x ∷ xs) i ys = inr (in_middle xs i ys)

shorter : (xs : List Inst) (i : Inst) (ys : List Inst) → length xs < length (xs ++ i ∷ ys)
shorter [] i ys = omega arith
shorter (x ∷ xs) i ys = let less = shorter xs i ys in omega (arith, less)

-- a constant is read as a global
constant_read : (src : Source) (ids : ℕ → Text) (q : Option Inst) → option_map_or (λ (g : Inst). is_constant g.op) q false ≡ true → (e : Expr) × (option_and_then (global_by src ids) q ≡ Some e)
constant_read src ids None on = cc
constant_read src ids (Some g) on = (constant_expr src ids g, first_some (is_constant g.op) (constant_expr src ids g) _ on)
  where
    first_some : (b : Bool) (e : Expr) (rest : Option Expr) → b ≡ true → (if b then Some e else rest) ≡ Some e
    first_some true e rest on = refl
    first_some false e rest on = cc

module _ (s : Setting) (entry : Option (List ℕ)) (right : IsConforming s.of entry) (kinds : HaveKinds s.of.globals) (o : Options) (unit : TranslationUnit) (u : IsUnitOf s.of o unit) (p : FunctionPlan) (among : IsIn p u.plans) (names : List (List ℕ)) (structs : AreOfStructs s.of.globals (name_of u.claimed) names) where
  abbrev Gs : List Inst
  Gs = s.of.globals

  abbrev Fn : Function
  Fn = F s entry right kinds o unit u p among

  abbrev Marks : List Bool
  Marks = R s entry right kinds o unit u p among

  abbrev Where : Scope
  Where = V s entry right kinds o unit u p among

  abbrev W : Words
  W = words_of s.of.globals (name_of u.claimed) names

  abbrev T : ℕ → Option ℕ
  T = type_in s.of.globals Fn

  abbrev Way : ℕ → ℕ → Type 0
  Way = HasWay s entry right Fn o unit u names Where.setting.global

  abbrev links : List Link
  links = (plan_is s entry right kinds o unit u p among).links

  -- what the rules say of a chain
  pub record IsRuled (i : Inst) : Type 0 where
    pub some : i.result ≡ 0 → ⊥
    pub based : slice_get i.args 0 ≡ Some (base i)
    pub typed : HaveTypes s Fn (indexes i)
    pub leads : (q : ℕ) × (t : Tree) × (pointee_of Gs Fn (base i) ≡ Some q) × (type_tree Gs q ≡ Some t)
    pub sound : breaks_t6 Gs T i ≡ false
    pub own : T i.result ≡ Some i.ty
    pub points : fails is_pointer Gs i.ty ≡ false → (q : ℕ) × (v : Tree) × (pointee Gs i.ty ≡ Some q) × (type_tree Gs q ≡ Some v)

  -- an index has a shape, and is no struct; where it is read as a global, that is written
  pub record IsReadable (n : ℕ) : Type 0 where
    pub shape : Tree
    pub shaped : type_tree Gs (type_of Where n) ≡ Some shape
    pub other : is_struct_key Gs (Id (id n)) ≡ false
    pub read : (e : Expr) → Where.setting.global n ≡ Some e → UsesExpr W e

  -- the members of what a pointer that no chain makes leads to have names, and it has
  pub record IsRoot (n ty : ℕ) (t : Tree) : Type 0 where
    pub members : HasMembers s entry right Fn o unit u names Where.setting.global ty t
    pub named : W.value (base_text Where.setting n)

  module _ (chains : (i : Inst) → IsIn i (insts_of Fn) → is_chain i.op ≡ true → IsRuled i) where
    order : AreOrdered Fn (results links Fn)
    order = in_order s.of Fn (ordered s entry right kinds o unit u p among) Marks links (plan_is s entry right kinds o unit u p among).live

    -- for a block where paths are printed
    module _ (b : ℕ) where
      -- a mention there, or by a carried chain that is based on the pointer
      abbrev pub IsSeen : (c n : ℕ) (i : Inst) → IsLinked Fn Marks c i n → Type 0
      IsSeen c n i m = (c ≡ b) ⊎ ((is_chain i.op ≡ true) × ((m.arg == 0) ≡ true) × (Where.carried i.result ≡ true))

      module _ (c0 : ℕ) (user : Inst) (j : Inst) (m : IsLinked Fn Marks c0 user j.result) (no_phi : is user.op code.Phi ≡ false) (seen : IsSeen c0 j.result user m) (chain : is_chain j.op ≡ true) (j_in : IsIn j (insts_of Fn)) where
        pub home : (c : ℕ) × (holder : Block) × (slice_get Fn.blocks c ≡ Some holder) × IsIn j holder.insts
        home = in_block Fn.blocks j j_in

        abbrev pub ruled : IsRuled j
        ruled = chains j j_in chain

        abbrev P : Placed
        P = placed links home.0 j

        listed : IsIn P (results links Fn)
        listed = is_placed links Fn home.0 home.1 j home.2 home.3 ruled.some

        mentioned : IsIn (link_at Fn Marks c0 user j.result m) (mentions_of links j.result)
        mentioned = link_stands Fn Marks c0 user j.result m links (plan_is s entry right kinds o unit u p among).live

        pub place : (k : ℕ) × (inst_at Fn home.0 k ≡ Some j)
        place = placed_in Fn home.0 home.1 j home.2 home.3

        pub live : IsLive Fn Marks home.0 place.0
        live = linked_live Fn Marks c0 user j.result m home.0 place.0 j place.1 refl

        pub value_at : (k : ℕ) → is_slot Fn Marks j k ≡ true
        value_at k =
            and_from (is_id j.op j.args k) (is_value j.op k && is_taken Fn Marks j k) (chain_id j.op j.args k chain)
            (and_from (is_value j.op k) (is_taken Fn Marks j k) (chain_value j.op k chain) (ap (λ (x : Bool). not x || is_label_reached Fn Marks (slice_index j.args (k + 1))) (chain_no_phi j.op chain)))

        -- it mentions its base
        abbrev pub base_link : IsLinked Fn Marks home.0 j (base j)
        base_link = record {
          place = place.0;
          arg = 0;
          there = place.1;
          live = live;
          slot = and_from (slice_index_or Marks home.0 false || is_base j 0) (is_slot Fn Marks j 0)
              (or_right (slice_index_or Marks home.0 false) (is_base j 0) (and_from (is_chain j.op) (0 == 0) chain (number_same 0 0 refl)))
              (value_at 0);
          word = ruled.based;
        }

        -- and in a reached block its indexes
        pub index_mention : slice_index_or Marks home.0 false ≡ true → (n k : ℕ) → slice_get j.args (suc k) ≡ Some n → IsMentioned Fn Marks home.0 j n
        index_mention here n k arg = record { place = place.0; arg = suc k; there = place.1; here = here; live = live; slot = value_at (suc k); word = arg }

        pub carried : (home.0 ≡ b → ⊥) → Where.carried j.result ≡ true
        carried apart = by_seen seen
          where
            by_seen : IsSeen c0 j.result user m → Where.carried j.result ≡ true
            by_seen (inl same) = carried_by_use s entry right kinds o unit u p among home.0 home.1 j home.2 home.3 ruled.some chain c0 user m no_phi (λ here. apart (sym here ∙ same))
            by_seen (inr w) =
                let at = carried_at Fn (results links Fn) user.result w.2 in
                base_carried Fn (results links Fn) order P (link_at Fn Marks c0 user j.result m) user listed chain mentioned (linked_user Fn Marks c0 user j.result m) w.1 w.0 at (chain_no_phi at.by.op at.chain)

        -- so its base is seen there too
        pub based_seen : IsSeen home.0 (base j) j base_link
        based_seen = elim (eqb_tells home.0 b) [ inl w ↦ inl w.1 | inr w ↦ inr (chain, number_same 0 0 refl, carried w.1) ]

    module _ (rise : ChainsRise (insts_of Fn)) (readable : (i : Inst) → IsIn i (insts_of Fn) → is_chain i.op ≡ true → (n : ℕ) → IsIn n (indexes i) → (c : ℕ) → IsMentioned Fn Marks c i n ⊎ IsCaptured Where Marks c i → IsReadable n)
        (roots : (n ty : ℕ) (t : Tree) → NoneMakes n (insts_of Fn) → (c : ℕ) (i : Inst) → IsLinked Fn Marks c i n → pointee_of Gs Fn n ≡ Some ty → type_tree Gs ty ≡ Some t → IsRoot n ty t) where
      module _ (b : ℕ) (printed : slice_index_or Marks b false ≡ true) where
        module _ (c0 : ℕ) (user : Inst) (j : Inst) (m : IsLinked Fn Marks c0 user j.result) (no_phi : is user.op code.Phi ≡ false) (seen : IsSeen b c0 j.result user m) (chain : is_chain j.op ≡ true) (j_in : IsIn j (insts_of Fn)) where
          abbrev its_home : (c : ℕ) × (holder : Block) × (slice_get Fn.blocks c ≡ Some holder) × IsIn j holder.insts
          its_home = home b c0 user j m no_phi seen chain j_in

          abbrev its_rules : IsRuled j
          its_rules = ruled b c0 user j m no_phi seen chain j_in

          abbrev its_place : (k : ℕ) × (inst_at Fn its_home.0 k ≡ Some j)
          its_place = place b c0 user j m no_phi seen chain j_in

          uses : slice_index_or Marks its_home.0 false ≡ true → (n : ℕ) → IsIn n (indexes j) → UsesExpr W (index_expr Where.setting n)
          uses here n n_in =
              let at = at_some (indexes j) n n_in in
              let r = readable j j_in chain n n_in its_home.0 (inl (index_mention b c0 user j m no_phi seen chain j_in here n at.0 (behind_first j.args at.0 n at.1))) in
              index_uses s entry right kinds o unit u p among names structs its_home.0 its_home.1 j its_home.2 its_home.3 its_rules.some its_place.0 at.0 n chain its_place.1 here (live b c0 user j m no_phi seen chain j_in) (behind_first j.args at.0 n at.1) r.shape r.shaped r.other r.read

          -- of a chain that is printed in another block the constants among its indexes are written as they are, be its own block reached or not
          constant_uses : (its_home.0 ≡ b → ⊥) → (n : ℕ) → IsIn n (indexes j) → is_constant_index Gs n ≡ true → UsesExpr W (index_expr Where.setting n)
          constant_uses apart n n_in constant = by_reached (slice_index_or Marks its_home.0 false) refl
            where
              by_reached : (here : Bool) → slice_index_or Marks its_home.0 false ≡ here → UsesExpr W (index_expr Where.setting n)
              by_reached true here = uses here n n_in
              by_reached false off =
                  let r = readable j j_in chain n n_in its_home.0 (inr (record { holder = its_home.1; there = its_home.2; among = its_home.3; off = off; chain = chain; carried = carried b c0 user j m no_phi seen chain j_in apart })) in
                  let read = constant_read (S s entry right kinds o unit u p among) (id_text (name_of u.claimed)) (global Gs n) constant in
                  subst (λ (q : Option Expr). UsesExpr W (unwrap_or q (name (text_of (name_of u.claimed) (Id (id n)))))) (sym read.1) (r.read read.0 read.1)

          abbrev Written : Type 0
          Written = AreWritable s entry right Fn o unit u names Where.setting.global (spot_of b (its_home.0, j)) 0 (indexes j)

          -- so its indexes are written
          all_written : Written
          all_written = elim (eqb_tells its_home.0 b) [
            | inl w ↦
                subst (λ (x : ℕ). AreWritable s entry right Fn o unit u names Where.setting.global (spot_of x (its_home.0, j)) 0 (indexes j)) w.1
                (here_writable s entry right kinds o unit u p among names structs its_home.0 its_home.1 j its_home.2 its_home.3 (uses (ap (λ (x : ℕ). slice_index_or Marks x false) w.1 ∙ printed)))
            | inr w ↦
                kept_writable s entry right kinds o unit u p among names structs its_home.0 its_home.1 j its_home.2 its_home.3 chain (carried b c0 user j m no_phi seen chain j_in w.1) b
                (λ n n_in on. constant_uses w.1 n n_in (first_by (is_constant_index Gs n) (its_home.0 == b) on w.0))
          ]

          chain_way : Way b (base j) → Way b j.result
          chain_way way = chain_has s entry right Fn o unit u names Where.setting.global b its_home.0 its_home.1 j rise its_home.2 (as_among its_home.1.insts j its_home.3) chain way all_written its_rules.typed its_rules.sound its_rules.own its_rules.points

        -- along the instructions of the function
        made_way : (front back : List Inst) → insts_of Fn ≡ front ++ back → (c n : ℕ) (i : Inst) (m : IsLinked Fn Marks c i n) → is i.op code.Phi ≡ false → IsSeen b c n i m → (ty : ℕ) (t : Tree) → pointee_of Gs Fn n ≡ Some ty → type_tree Gs ty ≡ Some t → NoneMakes n back
            → ((xs ys : List Inst) → insts_of Fn ≡ xs ++ ys → length xs < length front → (d h : ℕ) (j : Inst) (v : IsLinked Fn Marks d j h) → is j.op code.Phi ≡ false → IsSeen b d h j v → (q : ℕ) (x : Tree) → pointee_of Gs Fn h ≡ Some q → type_tree Gs q ≡ Some x → NoneMakes h ys → Way b h) → Way b n
        made_way front back whole c n i m no_phi seen ty t points shaped none later = by_found (makes_in n front)
          where
            root_way : NoneMakes n front → Way b n
            root_way first =
                let makes_none = subst (NoneMakes n) (sym whole) (none_joined n front back first none) in
                let r = roots n ty t makes_none c i m points shaped in
                start_has s entry right Fn o unit u names Where.setting.global b n ty t makes_none points r.members r.named

            by_split : (j : Inst) (xs ys : List Inst) → front ≡ xs ++ j ∷ ys → is_chain j.op ≡ true → (v : IsLinked Fn Marks c i j.result) → IsSeen b c j.result i v → Way b j.result
            by_split j xs ys is_it chain v v_seen =
                let joined : insts_of Fn ≡ xs ++ (j ∷ (ys ++ back)) = whole ∙ (ap (λ (l : List Inst). l ++ back) is_it ∙ append_assoc xs (j ∷ ys) back) in
                let j_in : IsIn j (insts_of Fn) = subst (IsIn j) (sym joined) (in_middle xs j (ys ++ back)) in
                let leads = (chains j j_in chain).leads in
                chain_way c i j v no_phi v_seen chain j_in
                (later xs (j ∷ (ys ++ back)) joined (subst (λ (l : List Inst). length xs < length l) (sym is_it) (shorter xs j ys)) (home b c i j v no_phi v_seen chain j_in).0 (base j) j (base_link b c i j v no_phi v_seen chain j_in) (chain_no_phi j.op chain)
                (based_seen b c i j v no_phi v_seen chain j_in) leads.0 leads.1 leads.2 leads.3 (rise_at xs j (ys ++ back) (subst ChainsRise joined rise) chain))

            by_found : Found n front → Way b n
            by_found (inr first) = root_way first
            by_found (inl w) =
                let x = split_at front w.0 w.1.0 in
                subst (λ (h : ℕ). (v : IsLinked Fn Marks c i h) → IsSeen b c h i v → Way b h) w.1.2 (by_split w.0 x.0 x.1 x.2 w.1.1) m seen

        seen_way : (k : ℕ) (front back : List Inst) → insts_of Fn ≡ front ++ back → length front < k → (c n : ℕ) (i : Inst) (m : IsLinked Fn Marks c i n) → is i.op code.Phi ≡ false → IsSeen b c n i m → (ty : ℕ) (t : Tree) → pointee_of Gs Fn n ≡ Some ty → type_tree Gs ty ≡ Some t → NoneMakes n back → Way b n
        seen_way zero front back whole low c n i m no_phi seen ty t points shaped none = absurd (omega (arith, low))
        seen_way (suc k) front back whole low c n i m no_phi seen ty t points shaped none =
            made_way front back whole c n i m no_phi seen ty t points shaped none (λ xs ys is_it less d h j v v_phi v_seen q x v_points v_shaped v_none. seen_way k xs ys is_it (let fewer : length xs < k = omega (arith, less, low) in fewer) d h j v v_phi v_seen q x v_points v_shaped v_none)

      -- so is each pointer that a live instruction mentions, in its block
      pub mentioned_way : (b n : ℕ) (i : Inst) (m : IsMentioned Fn Marks b i n) → is i.op code.Phi ≡ false → (ty : ℕ) (t : Tree) → pointee_of Gs Fn n ≡ Some ty → type_tree Gs ty ≡ Some t → Way b n
      mentioned_way b n i m no_phi ty t points shaped =
          seen_way b m.here (suc (length (insts_of Fn))) (insts_of Fn) [] (sym (append-nil (insts_of Fn))) (let less : length (insts_of Fn) < suc (length (insts_of Fn)) = omega arith in less) b n i (as_linked Fn Marks b i n m) no_phi (inl refl) ty t points shaped tt
