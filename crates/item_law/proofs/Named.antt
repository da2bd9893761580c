-- Where each key that a text claims has a name, items have names apart, and so have the members of structs in the types of what is written.
use Rattle.std.proofs.Common.{◌≡◌, ◌<◌, ◌==◌, ◌&&◌, ◌||◌, ℕ, zero, suc, Bool, true, false, List, [], ◌∷◌, not, Option, Some, None, inl, inr, refl, sym, ap, ◌∙◌, subst, arith}
use Rattle.std.specs.Prelude.{◌⊎◌, bytes_eq, codes, is_some, slice_get, unwrap_or}
use Rattle.std.specs.List.{list_any}
use Rattle.std.proofs.lemmas.Slice.Eq.{bytes_eq-Decides}
use Rattle.std.proofs.lemmas.Bool.Decides.{nat_tests}
use Rattle.std.proofs.lemmas.Bool.{and_from, or_left, or_right}
use Rattle.spv_ops.specs.Opcode.{is}
use Rattle.spv_ops.specs.declared.Op.TheVariants as code
use Rattle.spv_module.specs.Lists.{id}
use Rattle.spv_module.specs.declared.inst.Inst.{Inst}
use Rattle.spv_types.specs.Tree as plain
use Rattle.spv_types.specs.Tree.{Tree, Trees, no_trees, tree}
use Rattle.spv_types.specs.Types.{both, all_trees, tree_before, type_tree}
use Rattle.spv_index.specs.Pointers.{pointee}
use Rattle.spv_index.specs.BlockStructs.{is_block, is_some_block}
use Rattle.profile_rules.specs.declared.given.Given.{Given}
use Rattle.profile_rules.specs.Places.{is_variable}
use Rattle.module_semantics.specs.Setting.{Setting}
use Rattle.list_law.proofs.Tests.{and_left}
use Rattle.plan_law.specs.InOrder.{IsAmong}
use Rattle.fits_law.specs.Takes.{nth_of}
use Rattle.fits_law.proofs.Steps.{named}
use Rattle.typed_law.specs.Conforms.{IsConforming}
use Rattle.typed_law.proofs.Lists.{found_in}
use Rattle.name_alloc.specs.Law.{AreNames, IsFree}
use Rattle.name_alloc.specs.Naming.{space_of}
use Rattle.name_alloc.specs.Reserved.{has_prefix}
use Rattle.name_alloc.specs.declared.claims.Key.{Key}
use Rattle.name_alloc.specs.declared.claims.Key.TheVariants.{Main, Id, Member}
use Rattle.glsl_ast.specs.Tree.{Text}
use Rattle.text_rules.specs.Constants.{Source, group_size_text}
use Rattle.text_rules.specs.Printed.{Reached, is_private, is_workgroup, is_block_variable, is_operand_in, has_struct, have_struct, is_written_variable, is_declared_constant, is_written_struct, type_has_struct, written_types}
use Rattle.text_rules.specs.Claims.{Plan, claims, has_block, is_written_block}
use Rattle.global_law.specs.Parts.{AreMembersApart, HasMembersApart, HaveMembersApart}
use Rattle.global_law.specs.Walks.{struct_names}
use Rattle.global_law.specs.Sources.{source_of}
use Rattle.global_law.specs.Within.{IsStructBefore, IsWithin, AreWithin, IsNoBlock}
use Rattle.global_law.specs.Items.{key_text, is_item, HaveNames}
use Rattle.global_law.proofs.Constant.Within.{constant_within, pointee_within, members_unblocked}
use Rattle.global_law.proofs.Constant.Written.{IsHeld, own_type, pointed_type, held_by, struct_written}
use Rattle.global_law.proofs.Constant.Standing.{any_among, declared_op}
use Rattle.claim_law.specs.Claimed.{IsIn, HasKey, HasName}
use Rattle.claim_law.proofs.Claim.Keys.{struct_claimed, member_claimed, constant_claimed, variable_claimed}
use Rattle.claim_law.proofs.Claim.Constants.{no_struct}
use Rattle.claim_law.proofs.Claim.Variables.{variable_no_struct}
use Rattle.claim_law.proofs.Claim.Apart.{size_reserved}

-- a name that begins with a reserved prefix
in_among : (g : Inst) (gs : List Inst) → IsAmong g gs → IsIn g gs
in_among g [] there = absurd there
in_among g (h ∷ gs) (inl same) = inl same
in_among g (h ∷ gs) (inr there) = inr (in_among g gs there)

-- arguments before one that is there are there
lower_there : (xs : List ℕ) (i j x : ℕ) → slice_get xs i ≡ Some x → j < i → (y : ℕ) × (slice_get xs j ≡ Some y)
lower_there [] i j x at less = absurd (no_part i at)
  where
    no_part : (i : ℕ) → slice_get [] i ≡ Some x → ⊥
    no_part zero at = cc
    no_part (suc i) at = cc
lower_there (y ∷ ys) zero j x at less = absurd (none_below less)
  where
    none_below : j < 0 → ⊥
    none_below less = omega (arith, less)
lower_there (y ∷ ys) (suc i) zero x at less = (y, refl)
lower_there (y ∷ ys) (suc i) (suc j) x at less = lower_there ys i j x at (omega (arith, less))

-- a struct has an argument for each member
argument : (f : ℕ → Option Tree) (ns : List ℕ) (ts : Trees) (i : ℕ) (t : Tree) → all_trees f ns ≡ Some ts → nth_of ts i ≡ Some t → (n : ℕ) × (slice_get ns i ≡ Some n)
argument f [] ts i t all at = absurd (no_part ts all at)
  where
    no_part : (ts : Trees) → Some no_trees ≡ Some ts → nth_of ts i ≡ Some t → ⊥
    no_part no_trees same at = cc
    no_part (tree u us) same at = cc
argument f (n ∷ ns) ts i t all at = by_first (f n) (all_trees f ns) refl all (λ us k rest there. argument f ns us k t rest there)
  where
    by_index : (u : Tree) (us : Trees) → all_trees f ns ≡ Some us → ((us : Trees) (k : ℕ) → all_trees f ns ≡ Some us → nth_of us k ≡ Some t → (m : ℕ) × (slice_get ns k ≡ Some m)) → (i : ℕ) → nth_of (tree u us) i ≡ Some t → (m : ℕ) × (slice_get (n ∷ ns) i ≡ Some m)
    by_index u us rest later zero at = (n, refl)
    by_index u us rest later (suc i) at = later us i rest at

    by_first : (o : Option Tree) (q : Option Trees) → all_trees f ns ≡ q → both o q ≡ Some ts → ((us : Trees) (k : ℕ) → all_trees f ns ≡ Some us → nth_of us k ≡ Some t → (m : ℕ) × (slice_get ns k ≡ Some m)) → (m : ℕ) × (slice_get (n ∷ ns) i ≡ Some m)
    by_first None q rest whole later = cc
    by_first (Some u) None rest whole later = cc
    by_first (Some u) (Some us) rest whole later = let same : tree u us ≡ ts = cc in by_index u us rest later i (ap (λ q. nth_of q i) same ∙ at)

-- the name of a key that has one
named_key : (found : Key → Option Text) (key : Key) → HasName found key → found key ≡ Some (key_text found key)
named_key found key has = by_name (found key) refl has
  where
    by_name : (o : Option Text) → found key ≡ o → is_some o ≡ true → found key ≡ Some (key_text found key)
    by_name None is has = cc
    by_name (Some w) is has = is ∙ ap (λ x. Some x) (sym (ap (λ o. unwrap_or o []) is))

abbrev id_number : Key → ℕ
id_number (Id n) = n.0
id_number key = 0

abbrev member_number : Key → ℕ
member_number (Member n k) = k
member_number key = 0

variable_one : (g : Inst) (r : Reached) → is_written_variable r g ≡ true → is_variable g ≡ true
variable_one g r on = by_class (is_private g) (is_workgroup g) (is_block_variable g) refl refl refl (and_left (is_private g || (is_workgroup g || is_block_variable g)) (is_operand_in r.functions g.result) on)
  where
    by_class : (a b c : Bool) → is_private g ≡ a → is_workgroup g ≡ b → is_block_variable g ≡ c → (a || (b || c)) ≡ true → is_variable g ≡ true
    by_class true b c private workgroup block on = and_left (is_variable g) _ private
    by_class false true c private workgroup block on = and_left (is_variable g) _ workgroup
    by_class false false true private workgroup block on = and_left (is_variable g) _ block
    by_class false false false private workgroup block on = cc

module _ (s : Setting) (entry : Option (List ℕ)) (right : IsConforming s.of entry) (overrides : List (ℕ × Given)) (found : Key → Option Text) (r : Reached) (plans : List Plan) (lawful : AreNames found)
    (claimed : (key : Key) → HasKey key (claims (source_of s overrides) r plans) → HasName found key) where
  abbrev source : Source
  source = source_of s overrides

  abbrev Gs : List Inst
  Gs = s.of.globals

  abbrev key : Key → Text
  key = key_text found

  -- keys of one space with one name are one
  one_key : (a b : Key) → space_of a ≡ space_of b → HasName found a → HasName found b → key a ≡ key b → a ≡ b
  one_key a b space has too same = lawful.apart a b (key a) space (named_key found a has) (named_key found b too ∙ ap (λ x. Some x) (sym same))

  pub item_named : (g : Inst) → IsAmong g Gs → is_item source r g ≡ true → HasName found (Id (id g.result))
  item_named g among on = by_kind (is_written_struct source r g) (is_declared_constant source r g) (is_written_variable r g) refl refl refl on
    where
      there : IsIn g Gs
      there = in_among g Gs among

      by_kind : (a b c : Bool) → is_written_struct source r g ≡ a → is_declared_constant source r g ≡ b → is_written_variable r g ≡ c → (a || (b || c)) ≡ true → HasName found (Id (id g.result))
      by_kind true b c struct constant variable on =
          claimed (Id (id g.result)) (struct_claimed source r plans g there (and_left (is g.op code.TypeStruct) (not (is_block s.of.heads g.result) && list_any (type_has_struct Gs g.result) (written_types source r)) struct) struct)
      by_kind false true c struct constant variable on = claimed (Id (id g.result)) (constant_claimed source r plans g there (no_struct g.op (declared_op source r g constant)) constant)
      by_kind false false true struct constant variable on = claimed (Id (id g.result)) (variable_claimed source r plans g there (variable_no_struct g.op (variable_one g r variable)) constant variable)
      by_kind false false false struct constant variable on = cc

  -- So items have names apart, and none has that of the size of workgroups, which begins with a reserved prefix.
  pub have_names : HaveNames source r key
  have_names = record {
    apart = λ g h among too on also same. ap id_number (one_key (Id (id g.result)) (Id (id h.result)) refl (item_named g among on) (item_named h too also) same);
    size_apart = λ g among on same. by_name g.result (lawful.each (Id (id g.result)) (key (Id (id g.result))) (named_key found (Id (id g.result)) (item_named g among on))).free same;
  }
    where
      by_name : (k : ℕ) → ((Id (id k) ≡ Main) × (key (Id (id k)) ≡ codes "main")) ⊎ IsFree (key (Id (id k))) → key (Id (id k)) ≡ group_size_text → ⊥
      by_name k (inl main) same = let never : Id (id k) ≡ Main = main.0 in cc
      by_name k (inr free) same = let never : true ≡ false = sym size_reserved ∙ ap has_prefix (sym same) ∙ free.prefix in cc

  -- the members of a struct whose members are claimed
  claimed_apart : (g : Inst) (ts : Trees) → IsIn g Gs → is g.op code.TypeStruct ≡ true → (is_written_struct source r g || is_written_block source r g.result) ≡ true → all_trees (tree_before Gs g.at) g.args ≡ Some ts → AreMembersApart (struct_names key) g.result ts
  claimed_apart g ts there struct written all i j u less at = by_test (bytes_eq (key (Member (id g.result) i)) (key (Member (id g.result) j))) refl
    where
      above : (n : ℕ) × (slice_get g.args j ≡ Some n)
      above = argument (tree_before Gs g.at) g.args ts j u all at

      below_it : (n : ℕ) × (slice_get g.args i ≡ Some n)
      below_it = lower_there g.args j i above.0 above.1 less

      has : (k n : ℕ) → slice_get g.args k ≡ Some n → HasName found (Member (id g.result) k)
      has k n at = claimed (Member (id g.result) k) (member_claimed source r plans g k n there struct written at)

      far : i ≡ j → ⊥
      far same = omega (arith, less, same)

      by_test : (b : Bool) → bytes_eq (key (Member (id g.result) i)) (key (Member (id g.result) j)) ≡ b → bytes_eq (key (Member (id g.result) i)) (key (Member (id g.result) j)) ≡ false
      by_test false is = is
      by_test true is =
          absurd (far (ap member_number (one_key (Member (id g.result) i) (Member (id g.result) j) refl (has i below_it.0 below_it.1) (has j above.0 above.1)
          ((bytes_eq-Decides (key (Member (id g.result) i)) (key (Member (id g.result) j))).0 is))))

  module _ (n : ℕ) where
    abbrev Held : ℕ → Type 0
    Held j = IsHeld s entry right overrides r j

    struct_apart : (k : ℕ) (ts : Trees) → IsStructBefore (IsNoBlock s.of) s.of n k ts → Held k → AreMembersApart (struct_names key) k ts
    struct_apart k ts w held =
        subst (λ a. AreMembersApart (struct_names key) a ts) (named Gs k w.inst w.there)
        (claimed_apart w.inst ts (in_among w.inst Gs (found_in Gs k w.inst w.there)) w.opcode (or_left (is_written_struct source r w.inst) (is_written_block source r w.inst.result) (struct_written s entry right overrides r n k ts w held)) w.members)

    mutual
      -- members are apart in a type whose structs are held by what is written
      pub members_apart : (t : Tree) → IsWithin (IsNoBlock s.of) s.of n t → ((j : ℕ) → has_struct j t ≡ true → Held j) → HasMembersApart (struct_names key) t
      members_apart plain.boolean w held = tt
      members_apart plain.int w held = tt
      members_apart plain.uint w held = tt
      members_apart (plain.vector e k) w held = tt
      members_apart (plain.array t l) w held = members_apart t w.0 held
      members_apart (plain.runtime t) w held = members_apart t w held
      members_apart (plain.struct k ts) w held = (struct_apart k ts w.0 (held k (or_left (k == k) (have_struct k ts) (grind (arith, nat_tests)))), have_apart ts w.1 (λ j has. held j (or_right (k == j) (have_struct j ts) has)))

      pub have_apart : (ts : Trees) → AreWithin (IsNoBlock s.of) s.of n ts → ((j : ℕ) → have_struct j ts ≡ true → Held j) → HaveMembersApart (struct_names key) ts
      have_apart no_trees w held = tt
      have_apart (tree t ts) w held = (members_apart t w.0 (λ j has. held j (or_left (has_struct j t) (have_struct j ts) has)), have_apart ts w.1 (λ j has. held j (or_right (has_struct j t) (have_struct j ts) has)))

  -- so it is with each constant that is declared
  pub constant_members : (g : Inst) (t : Tree) → IsAmong g Gs → is_declared_constant source r g ≡ true → type_tree Gs g.ty ≡ Some t → HasMembersApart (struct_names key) t
  constant_members g t there on shape =
      members_apart g.at t (constant_within s.of entry right g t there (declared_op source r g on) shape)
      (λ j has. held_by s entry right overrides r g j there (or_right (is_written_variable r g) (is_declared_constant source r g) on) (own_type s entry right overrides r g.ty j t shape has))

  -- with what a written variable points to that is no block
  pub variable_members : (v : Inst) (q : ℕ) (t : Tree) → IsAmong v Gs → is_written_variable r v ≡ true → is_some_block s.of.heads Gs v ≡ false → pointee Gs v.ty ≡ Some q → type_tree Gs q ≡ Some t → HasMembersApart (struct_names key) t
  variable_members v q t there on off at shape =
      members_apart v.at t (pointee_within s.of entry right v q t there (variable_one v r on) off at shape)
      (λ j has. held_by s entry right overrides r v j there (or_left (is_written_variable r v) (is_declared_constant source r v) on) (pointed_type s entry right overrides r v.ty q j t at shape has))

  -- and with a block
  pub block_members : (v g : Inst) (ts : Trees) → IsAmong v Gs → is_written_variable r v ≡ true → IsAmong g Gs → is g.op code.TypeStruct ≡ true → has_block source g.result v ≡ true → pointee Gs v.ty ≡ Some g.result → type_tree Gs g.result ≡ Some (plain.struct g.result ts) → all_trees (tree_before Gs g.at) g.args ≡ Some ts → HasMembersApart (struct_names key) (plain.struct g.result ts)
  block_members v g ts there on among struct block at shape all = (
    claimed_apart g ts (in_among g Gs among) struct (or_right (is_written_struct source r g) (is_written_block source r g.result) (any_among (λ (x : Inst). is_written_variable r x && has_block source g.result x) Gs v there (and_from (is_written_variable r v) (has_block source g.result v) on block))) all,
    have_apart g.at ts (members_unblocked s.of entry right g ts among struct all)
        (λ j has. held_by s entry right overrides r v j there (or_left (is_written_variable r v) (is_declared_constant source r v) on) (pointed_type s entry right overrides r v.ty g.result j (plain.struct g.result ts) at shape (or_right (g.result == j) (have_struct j ts) has))),
  )
