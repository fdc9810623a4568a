-- The keys of a document ascend, since each is put at its place among those before it.
use Rattle.std.proofs.Common.{◌≡◌, ℕ, zero, suc, Bool, true, false, cond, ◌==◌, List, [], ◌∷◌, length, Option, Some, None, option_map}
use Rattle.std.proofs.Common.{option_and_then, Ok, Err, refl, ap, subst, ◌∙◌, Ordering, Less, Equal, Greater, nat_cmp}
use Rattle.std.specs.Cmp.Lexicographic.{slice_cmp}
use Rattle.std.specs.Option.{ok_or}
use Rattle.std.specs.Ordering.{is_lt, match_ordering, ordering_reverse}
use Rattle.std.specs.Str.{is_utf8}
use Rattle.std.proofs.lemmas.Cmp.{nat_list_cmp_total}
use Rattle.std.proofs.lemmas.Option.{none-some, same_Some, option_and_then_some}
use Rattle.gtfs_tables.specs.declared.fault.FeedFault.TheVariants as fault
use Rattle.gtfs_tables.specs.Entries.{Name}
use Rattle.toml.specs.Data.{Members, is_before, same_key}
use Rattle.toml.specs.Parse.{line, lines, skip_bom, parse_document}
use Rattle.toml.specs.Tables.{Node, open_table, implicit, dotted, Nodes, no_nodes, node, get_node, insert, replace, close, Edit}
use Rattle.toml.specs.Tables.{header_node, dot_node, by_header, by_dot, along_header, along_dots, Definition, key_value, std_table}
use Rattle.toml.specs.Tables.{array_table, Expression, new_node, redefine, at_found, at_key, put, Document, define_as, define}
use Rattle.desk_settings.specs.Desk.{document_in, Ascend}

-- the keys of these nodes ascend
abbrev Rise : Nodes → Type 0
Rise ns = Ascend (close ns)

replaced-before : (b : Bool) (j k l : Name) (x y : Node) (ns : Nodes) → is_lt (slice_cmp nat_cmp j l) ≡ true
    → is_before j (close (cond b (node l x ns) (node l y (replace k x ns)))) ≡ true
replaced-before true j k l x y ns h = h
replaced-before false j k l x y ns h = h

-- a key before the others stays before them
replace-before : (j k : Name) (x : Node) (ns : Nodes) → is_before j (close ns) ≡ true → is_before j (close (replace k x ns)) ≡ true
replace-before j k x no_nodes h = h
replace-before j k x (node l y ns) h = replaced-before (same_key k l) j k l x y ns h

replaced-rise : (b : Bool) (k l : Name) (x y : Node) (ns : Nodes) → Rise (node l y ns) → Rise (replace k x ns)
    → Rise (cond b (node l x ns) (node l y (replace k x ns)))
replaced-rise true k l x y ns h more = h
replaced-rise false k l x y ns h more = (replace-before l k x ns h.0, more)

replace-rise : (k : Name) (x : Node) (ns : Nodes) → Rise ns → Rise (replace k x ns)
replace-rise k x no_nodes h = h
replace-rise k x (node l y ns) h = replaced-rise (same_key k l) k l x y ns h (replace-rise k x ns h.1)

inserted-before : (o : Ordering) (j k l : Name) (x y : Node) (ns : Nodes) → slice_cmp nat_cmp j k ≡ Less
    → is_lt (slice_cmp nat_cmp j l) ≡ true
    → is_before j (close (match_ordering o (node k x (node l y ns)) (node l x ns) (node l y (insert k x ns)))) ≡ true
inserted-before Less j k l x y ns new h = ap is_lt new
inserted-before Equal j k l x y ns new h = h
inserted-before Greater j k l x y ns new h = h

-- a key before the others and before a new one stays before them
insert-before : (j k : Name) (x : Node) (ns : Nodes) → slice_cmp nat_cmp j k ≡ Less → is_before j (close ns) ≡ true
    → is_before j (close (insert k x ns)) ≡ true
insert-before j k x no_nodes new h = ap is_lt new
insert-before j k x (node l y ns) new h = inserted-before (slice_cmp nat_cmp k l) j k l x y ns new h

inserted-rise : (o : Ordering) (k l : Name) (x y : Node) (ns : Nodes) → slice_cmp nat_cmp k l ≡ o → Rise (node l y ns)
    → Rise (insert k x ns)
    → Rise (match_ordering o (node k x (node l y ns)) (node l x ns) (node l y (insert k x ns)))
inserted-rise Less k l x y ns is h more = (ap is_lt is, h)
inserted-rise Equal k l x y ns is h more = h
inserted-rise Greater k l x y ns is h more = (insert-before l k x ns (nat_list_cmp_total.antisymm l k ∙ ap ordering_reverse is) h.0, more)

insert-rise : (k : Name) (x : Node) (ns : Nodes) → Rise ns → Rise (insert k x ns)
insert-rise k x no_nodes h = (refl, tt)
insert-rise k x (node l y ns) h = inserted-rise (slice_cmp nat_cmp k l) k l x y ns refl h (insert-rise k x ns h.1)

mapped-rise : {A : Type 0} (f : A → Nodes) (o : Option A) (out : Nodes) → ((a : A) → Rise (f a)) → option_map f o ≡ Some out → Rise out
mapped-rise f None out each is = absurd (none-some out is)
mapped-rise f (Some a) out each is = subst Rise (same_Some (f a) out is) (each a)

-- an edit after which the keys ascend if they did before
abbrev Keeps : Edit → Type 0
Keeps edit = (ns out : Nodes) → Rise ns → edit ns ≡ Some out → Rise out

at_found-keeps : (k : Name) (what : Definition) (ns : Nodes) (o : Option Node) (out : Nodes) → Rise ns → at_found k what ns o ≡ Some out
    → Rise out
at_found-keeps k what ns None out h is = subst Rise (same_Some (insert k (new_node what) ns) out is) (insert-rise k (new_node what) ns h)
at_found-keeps k what ns (Some x) out h is = mapped-rise (λ y. replace k y ns) (redefine what x) out (λ y. replace-rise k y ns h) is

at_key-keeps : (k : Name) (what : Definition) → Keeps (at_key k what)
unfolding at_key
at_key-keeps k what ns out h is = at_found-keeps k what ns (get_node k ns) out h is

by_header-keeps : (k : Name) (edit : Edit) (ns : Nodes) (o : Option Node) (out : Nodes) → Rise ns → by_header k edit ns o ≡ Some out
    → Rise out
by_header-keeps k edit ns None out h is =
    mapped-rise (λ new. insert k (open_table implicit new) ns) (edit no_nodes) out (λ new. insert-rise k (open_table implicit new) ns h) is
by_header-keeps k edit ns (Some x) out h is =
    mapped-rise (λ new. replace k new ns) (header_node edit x) out (λ new. replace-rise k new ns h) is

by_dot-keeps : (k : Name) (edit : Edit) (ns : Nodes) (o : Option Node) (out : Nodes) → Rise ns → by_dot k edit ns o ≡ Some out → Rise out
by_dot-keeps k edit ns None out h is =
    mapped-rise (λ new. insert k (open_table dotted new) ns) (edit no_nodes) out (λ new. insert-rise k (open_table dotted new) ns h) is
by_dot-keeps k edit ns (Some x) out h is = mapped-rise (λ new. replace k new ns) (dot_node edit x) out (λ new. replace-rise k new ns h) is

along_header-keeps : (path : List Name) (edit : Edit) → Keeps edit → Keeps (along_header path edit)
unfolding along_header
along_header-keeps [] edit keeps ns out h is = keeps ns out h is
along_header-keeps (k ∷ path) edit keeps ns out h is = by_header-keeps k (along_header path edit) ns (get_node k ns) out h is

along_dots-keeps : (path : List Name) (edit : Edit) → Keeps edit → Keeps (along_dots path edit)
unfolding along_dots
along_dots-keeps [] edit keeps ns out h is = keeps ns out h is
along_dots-keeps (k ∷ path) edit keeps ns out h is = by_dot-keeps k (along_dots path edit) ns (get_node k ns) out h is

root-rise : (o : Option Nodes) (path : List Name) (next : Document) → ((ns : Nodes) → o ≡ Some ns → Rise ns)
    → option_map (λ root. (root, path)) o ≡ Some next → Rise next.0
root-rise None path next each is = absurd (none-some next is)
root-rise (Some ns) path next each is = subst Rise (ap (λ doc. doc.0) (same_Some (ns, path) next is)) (each ns refl)

define_as-rise : (doc : Document) (key : List Name × Name) (what : Definition) (next : Document) → Rise doc.0
    → define_as doc key what ≡ Some next → Rise next.0
define_as-rise doc key (key_value d) next h is =
    root-rise (along_header doc.1 (put key d) doc.0) _ next
    (λ ns made. along_header-keeps doc.1 (put key d)
    (along_dots-keeps key.0 (at_key key.1 (key_value d)) (at_key-keeps key.1 (key_value d))) doc.0 ns h made) is
define_as-rise doc key std_table next h is =
    root-rise (along_header key.0 (at_key key.1 std_table) doc.0) _ next
    (λ ns made. along_header-keeps key.0 (at_key key.1 std_table) (at_key-keeps key.1 std_table) doc.0 ns h made) is
define_as-rise doc key array_table next h is =
    root-rise (along_header key.0 (at_key key.1 array_table) doc.0) _ next
    (λ ns made. along_header-keeps key.0 (at_key key.1 array_table) (at_key-keeps key.1 array_table) doc.0 ns h made) is

define-rise : (doc : Document) (e : Expression) (next : Document) → Rise doc.0 → define doc e ≡ Some next → Rise next.0
unfolding define
define-rise doc e next h is = define_as-rise doc e.0 e.1 next h is

over-or : (b : Bool) (doc out : Document) (rest : Option Document) → cond b (Some doc) rest ≡ Some out → Rise doc.0
    → (rest ≡ Some out → Rise out.0) → Rise out.0
over-or true doc out rest is h more = subst (λ d. Rise d.0) (same_Some doc out is) h
over-or false doc out rest is h more = more is

line-rise : (n : ℕ) (doc : Document) (start : List ℕ) (out : Document)
    → ((next : Document) (rest : List ℕ) → Rise next.0 → lines n next rest ≡ Some out → Rise out.0) → Rise doc.0
    → cond (length start == 0) (Some doc)
    (option_and_then (λ e. option_and_then (λ next. lines n next e.1) (define doc e.0)) (line start)) ≡ Some out → Rise out.0
line-rise n doc start out more h is =
    over-or (length start == 0) doc out (option_and_then (λ e. option_and_then (λ next. lines n next e.1) (define doc e.0)) (line start))
    is h
    (λ rest. option_and_then_some (λ e. option_and_then (λ next. lines n next e.1) (define doc e.0)) (line start) out rest
    (λ e read goes. option_and_then_some (λ next. lines n next e.1) (define doc e.0) out goes
    (λ next defined on. more next e.1 (define-rise doc e.0 next h defined) on)))

-- line after line the keys of the document ascend
lines-rise : (n : ℕ) (doc : Document) (text : List ℕ) (out : Document) → Rise doc.0 → lines n doc text ≡ Some out → Rise out.0
unfolding lines
lines-rise zero doc text out h is = absurd (none-some out is)
lines-rise (suc n) doc text out h is = line-rise n doc _ out (λ next rest rise on. lines-rise n next rest out rise on) h is

closed-ascend : (o : Option Document) (table : Members) → ((doc : Document) → o ≡ Some doc → Rise doc.0)
    → option_map (λ doc. close doc.0) o ≡ Some table → Ascend table
closed-ascend None table each is = absurd (none-some table is)
closed-ascend (Some doc) table each is = subst Ascend (same_Some (close doc.0) table is) (each doc refl)

parse_document-ascend : (text : List ℕ) (table : Members) → parse_document text ≡ Some table → Ascend table
unfolding parse_document
parse_document-ascend text table is =
    closed-ascend (lines (suc (length text)) (no_nodes, []) (skip_bom text)) table
    (λ doc made. lines-rise (suc (length text)) (no_nodes, []) (skip_bom text) doc tt made) is

read-ascend : (b : Bool) (o : Option Members) (table : Members) → ((ms : Members) → o ≡ Some ms → Ascend ms)
    → cond b (ok_or o fault.NotToml) (Err fault.NotToml) ≡ Ok table → Ascend table
read-ascend false o table each is = absurd cc
read-ascend true None table each is = absurd cc
read-ascend true (Some ms) table each is = let same : ms ≡ table = cc in subst Ascend same (each ms refl)

-- the keys of a document ascend
pub document_in-ascend : (bytes : List ℕ) (table : Members) → document_in bytes ≡ Ok table → Ascend table
unfolding document_in
document_in-ascend bytes table is = read-ascend (is_utf8 bytes) (parse_document bytes) table (parse_document-ascend bytes) is
