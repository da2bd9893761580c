-- The members of a block, one by one.
use Rattle.std.proofs.Common.{◌≡◌, ◌≤◌, ◌<◌, ◌||◌, ℕ, suc, ◌+◌, Bool, false, List, [], ◌∷◌, Option, Some, ap, ◌∙◌, arith, drop, length, get_or, map}
use Rattle.std.specs.List.{list_any}
use Rattle.std.specs.Option.{option_map_or}
use Rattle.std.proofs.Math.ListN.{drop_of_length-le}
use Rattle.std.proofs.Math.Seq.{drop-cons}
use Rattle.spv_words.specs.declared.rule.Fault.{Fault}
use Rattle.spv_words.specs.declared.rule.Fault.TheVariants.{Refused, Limit, Memory}
use Rattle.spv_module.specs.declared.inst.Inst.{Inst}
use Rattle.spv_types.specs.Types.{tree_before, IsRight as IsRightType}
use Rattle.layout_rules.specs.declared.Kind.{Kind}
use Rattle.layout_rules.specs.Rules.{offset_of}
use Rattle.layout_rules.specs.Blocks.{Member as MemberOfBlock, members_from, any_overlap, begins_below, IsLimit}
use Rattle.buffer_layout.specs.declared.members.Member.{Member}
use Rattle.buffer_layout.specs.Members.{member_of}

-- the next member that is read
pub members_next : (heads gs : List Inst) (g : Inst) (k : ℕ) (ids : List ℕ) (i : ℕ) → i < length ids → members_from heads gs g k (drop i ids) ≡ record { id = get_or ids i 0; offset = offset_of heads g.result k; shape = tree_before gs g.at (get_or ids i 0) } ∷ members_from heads gs g (k + 1) (drop (i + 1) ids)
members_next heads gs g k ids i inside = ap (members_from heads gs g k) (drop-cons ids i 0 inside) ∙ ap (λ n. record { id = get_or ids i 0; offset = offset_of heads g.result k; shape = tree_before gs g.at (get_or ids i 0) } ∷ members_from heads gs g (k + 1) (drop n ids)) (let more : suc i ≡ i + 1 = omega arith in more)

pub members_end : (heads gs : List Inst) (g : Inst) (k : ℕ) (ids : List ℕ) (i : ℕ) → length ids ≤ i → members_from heads gs g k (drop i ids) ≡ []
members_end heads gs g k ids i past = ap (members_from heads gs g k) (drop_of_length-le ids past)

-- a type that passes a limit is one
pub some_limit : (gs : List Inst) (id : ℕ) (fault : Fault) → IsRightType gs id fault → IsLimit gs fault
some_limit gs id (Refused r) h = h
some_limit gs id (Limit l) h = (id, h)
some_limit gs id Memory h = tt

pub ruleset member_rows = (members_next, members_end)

-- the rest of the members begins with the next
pub rest_next : (l : List Member) (i : ℕ) (d : Member) → i < length l → map member_of (drop i l) ≡ member_of (get_or l i d) ∷ map member_of (drop (i + 1) l)
rest_next l i d inside = ap (map member_of) (drop-cons l i d inside) ∙ ap (λ n. member_of (get_or l i d) ∷ map member_of (drop n l)) (let more : suc i ≡ i + 1 = omega arith in more)

pub rest_end : (l : List Member) (i : ℕ) → length l ≤ i → map member_of (drop i l) ≡ []
rest_end l i past = ap (map member_of) (drop_of_length-le l past)

pub any_next : (test : MemberOfBlock → Bool) (l : List Member) (i : ℕ) (d : Member) → i < length l → list_any test (map member_of (drop i l)) ≡ (test (member_of (get_or l i d)) || list_any test (map member_of (drop (i + 1) l)))
any_next test l i d inside = ap (list_any test) (rest_next l i d inside)

pub any_end : (test : MemberOfBlock → Bool) (l : List Member) (i : ℕ) → length l ≤ i → list_any test (map member_of (drop i l)) ≡ false
any_end test l i past = ap (list_any test) (rest_end l i past)

pub ruleset any_rows = (any_next, any_end)

pub overlap_next : (kind : Kind) (before : Option MemberOfBlock) (l : List Member) (i : ℕ) (d : Member) → i < length l → any_overlap kind before (map member_of (drop i l)) ≡ (option_map_or (λ (other : MemberOfBlock). begins_below kind other (member_of (get_or l i d))) before false || any_overlap kind (Some (member_of (get_or l i d))) (map member_of (drop (i + 1) l)))
overlap_next kind before l i d inside = ap (any_overlap kind before) (rest_next l i d inside)

pub overlap_end : (kind : Kind) (before : Option MemberOfBlock) (l : List Member) (i : ℕ) → length l ≤ i → any_overlap kind before (map member_of (drop i l)) ≡ false
overlap_end kind before l i past = ap (any_overlap kind before) (rest_end l i past)

pub ruleset overlap_rows = (overlap_next, overlap_end)
