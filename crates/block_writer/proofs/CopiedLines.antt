-- A plain text is the text of its table, so that it is written as it came.
use Rattle.std.proofs.Common.{◌≡◌, ℕ, ◌+◌, ◌<◌, ◌⊎◌, inl, inr, ◌||◌, List, [], ◌∷◌, ◌++◌, length, get_or, map, All, Bool, true, false}
use Rattle.std.proofs.Common.{Option, Some, None, Ok, refl, sym, ap, subst, ◌∙◌, append_assoc, arith}
use Rattle.std.specs.Prelude.{nat_lt, if◌then◌else◌}
use Rattle.std.specs.Str.{IsAscii, IsUtf8}
use Rattle.std.proofs.lemmas.Bool.{and_parts, eqb-true, ltb-true, ne_eqb}
use Rattle.std.proofs.lemmas.List.Elements.{All-cons, All-nil}
use Rattle.std.proofs.lemmas.Str.{IsUtf8-from_ascii}
use Rattle.std.proofs.lemmas.Str.Ascii.{IsAscii-cons, IsAscii-nil}
use Rattle.csv.specs.Reading.{strip_bom}
use Rattle.csv.specs.Writing.{field_text, fields_text, is_blank, needs_quotes, quoted}
use Rattle.desk_io.specs.declared.shelf.Found.{Found}
use Rattle.desk_io.specs.declared.shelf.Found.TheVariants.{File, Missing, TooLong}
use Rattle.gtfs_tables.specs.Reading.{or_refused, table_in}
use Rattle.gtfs_tables.specs.Table.{TableView, table_of}
use Rattle.gtfs_tables.specs.Writing.{record_text, record_writer, records_text}
use Rattle.gtfs_tables.specs.declared.paper.Paper.TheVariants as paper
use Rattle.trip_model.specs.Timetable.{TimetableView}
use Rattle.block_writer.proofs.LinesJudged.{IsFieldByte, After, after}
use Rattle.block_writer.proofs.ReadAgain.{table-back}
use Rattle.block_writer.specs.Fields.{slot_in, table_text}
use Rattle.block_writer.specs.Plain.{are_lines, fields_after, is_plain, plain_bytes}
use Rattle.block_writer.specs.StopTimes.{MovesNone, stop_time_written, stop_times_written, with_times}
use Rattle.block_writer.specs.Texts.{AreTexts, IsTextPaper}

-- a field that is written without quotes
record IsBare (field : List ℕ) : Type 0 where
  ascii : IsAscii field
  unquoted : needs_quotes record_writer field ≡ false

bare-nil : IsBare []
bare-nil = record { ascii = IsAscii-nil; unquoted = refl }

bare-cons : (b : ℕ) (field : List ℕ) → IsFieldByte b → IsBare field → IsBare (b ∷ field)
bare-cons b field byte bare = record {
  ascii = IsAscii-cons b field byte.ascii bare.ascii;
  unquoted = ap (λ (needs : Bool). needs || needs_quotes record_writer field) byte.unquoted ∙ bare.unquoted;
}

-- a bare field is written as it is
field-plain : (field : List ℕ) → IsBare field → field_text record_writer field ≡ field
field-plain field bare = ap (λ (quotes : Bool). if quotes then quoted record_writer field else field) bare.unquoted

-- Bytes that complete lines: the rest of the field at hand, the fields after it, and the records after that line.
record Lines (columns fields : ℕ) (text : List ℕ) : Type 0 where
  field : List ℕ
  more : List (List ℕ)
  rows : List (List (List ℕ))
  is : text ≡ field ++ (fields_text record_writer more ++ 10 ∷ records_text rows)
  width : length more + fields ≡ columns
  bare : IsBare field
  bares : All IsBare more
  widths : All (λ (row : List (List ℕ)). length row ≡ columns) rows
  fields_bare : All (All IsBare) rows

-- the text of a record of bare fields, of which there are two or more
record-plain : (field : List ℕ) (more : List (List ℕ)) → 0 < length more → IsBare field
    → record_text (field ∷ more) ≡ field ++ (fields_text record_writer more ++ 10 ∷ [])
unfolding is_blank
record-plain field [] some bare = absurd (omega arith)
record-plain field (next ∷ more) some bare =
    ap (λ first. (first ++ fields_text record_writer (next ∷ more)) ++ 10 ∷ []) (field-plain field bare)
    ∙ append_assoc field (fields_text record_writer (next ∷ more)) (10 ∷ [])

-- the text of a record of bare fields and those after it
records-plain : (field : List ℕ) (more : List (List ℕ)) (rows : List (List (List ℕ))) → 0 < length more → IsBare field
    → records_text ((field ∷ more) ∷ rows) ≡ field ++ (fields_text record_writer more ++ 10 ∷ records_text rows)
records-plain field more rows some bare =
    ap (λ text. text ++ records_text rows) (record-plain field more some bare)
    ∙ append_assoc field (fields_text record_writer more ++ 10 ∷ []) (records_text rows)
    ∙ ap (λ rest. field ++ rest) (append_assoc (fields_text record_writer more) (10 ∷ []) (records_text rows))

-- a text that begins a line, and is not empty, is that of its records
begun : (columns : ℕ) (rest : List ℕ) → 1 < columns → Lines columns 1 rest
    → (rows : List (List (List ℕ))) × (rest ≡ records_text rows) × All (λ (row : List (List ℕ)). length row ≡ columns) rows
    × All (All IsBare) rows
begun columns rest some l =
    let longer : 0 < length l.more = omega (arith, l.width, some) in (
      (l.field ∷ l.more) ∷ l.rows,
      l.is ∙ sym (records-plain l.field l.more l.rows longer l.bare),
      All-cons (λ (row : List (List ℕ)). length row ≡ columns) (l.field ∷ l.more) l.rows (omega (arith, l.width)) l.widths,
      All-cons (All IsBare) (l.field ∷ l.more) l.rows (All-cons IsBare l.field l.more l.bare l.bares) l.fields_bare,
    )

-- a bare field and the fields after it, behind a comma
after-comma : (field : List ℕ) (more : List (List ℕ)) (rest : List ℕ) → IsBare field
    → (field_text record_writer field ++ fields_text record_writer more) ++ 10 ∷ rest
    ≡ field ++ (fields_text record_writer more ++ 10 ∷ rest)
after-comma field more rest bare =
    ap (λ first. (first ++ fields_text record_writer more) ++ 10 ∷ rest) (field-plain field bare)
    ∙ append_assoc field (fields_text record_writer more) (10 ∷ rest)

-- bytes that complete lines are those of records of bare fields, or none are left after a line
lines : (columns fields last : ℕ) (text : List ℕ) → 1 < columns → are_lines columns (Some fields) last text ≡ true
    → Lines columns fields text ⊎ ((text ≡ []) × (last ≡ 10))
unfolding are_lines fields_text
lines columns fields last [] some is = inr (refl, eqb-true last 10 is)
lines columns fields last (b ∷ rest) some is =
    by (fields_after columns fields b) refl is (λ now is. lines columns now b rest some is)
  where
    ended : fields ≡ columns → b ≡ 10
        → (rows : List (List (List ℕ))) × (rest ≡ records_text rows) × All (λ (row : List (List ℕ)). length row ≡ columns) rows
        × All (All IsBare) rows
        → Lines columns fields (b ∷ rest)
    ended full end (rows, is, widths, fields_bare) = record {
      field = [];
      more = [];
      rows = rows;
      is = rw (end, is) refl;
      width = omega arith;
      bare = bare-nil;
      bares = All-nil IsBare;
      widths = widths;
      fields_bare = fields_bare;
    }

    to-next : (now : ℕ) → now ≡ fields + 1 → b ≡ 44 → Lines columns now rest → Lines columns fields (b ∷ rest)
    to-next now next comma l = record {
      field = [];
      more = l.field ∷ l.more;
      rows = l.rows;
      is = ap (λ b. b ∷ rest) comma ∙ ap (λ rest. 44 ∷ rest) (l.is ∙ sym (after-comma l.field l.more (records_text l.rows) l.bare));
      width = omega (arith, l.width, next);
      bare = bare-nil;
      bares = All-cons IsBare l.field l.more l.bare l.bares;
      widths = l.widths;
      fields_bare = l.fields_bare;
    }

    longer : (now : ℕ) → now ≡ fields → IsFieldByte b → Lines columns now rest → Lines columns fields (b ∷ rest)
    longer now same byte l = record {
      field = b ∷ l.field;
      more = l.more;
      rows = l.rows;
      is = ap (λ rest. b ∷ rest) l.is;
      width = omega (arith, l.width, same);
      bare = bare-cons b l.field byte l.bare;
      bares = l.bares;
      widths = l.widths;
      fields_bare = l.fields_bare;
    }

    on : (now : ℕ) → After columns fields b now → Lines columns now rest ⊎ ((rest ≡ []) × (b ≡ 10)) → Lines columns fields (b ∷ rest)
    on now (inl (end, full, one)) (inl l) = ended full end (begun columns rest some (subst (λ n. Lines columns n rest) one l))
    on now (inl (end, full, one)) (inr (none, _)) =
        ended full end ([], none, All-nil (λ (row : List (List ℕ)). length row ≡ columns), All-nil (All IsBare))
    on now (inr (inl (comma, next))) (inl l) = to-next now next comma l
    on now (inr (inl (comma, next))) (inr (none, end)) = absurd (omega (arith, comma, end))
    on now (inr (inr (byte, same))) (inl l) = longer now same byte l
    on now (inr (inr (byte, same))) (inr (none, end)) = absurd (byte.no_feed end)

    by : (now : Option ℕ) → fields_after columns fields b ≡ now → are_lines columns now b rest ≡ true
        → ((now : ℕ) → are_lines columns (Some now) b rest ≡ true → Lines columns now rest ⊎ ((rest ≡ []) × (b ≡ 10)))
        → Lines columns fields (b ∷ rest) ⊎ ((b ∷ rest ≡ []) × (last ≡ 10))
    by None gives is more = absurd (cc)
    by (Some now) gives is more = inl (on now (after columns fields b now gives) (more now is))

-- such a text begins with no byte-order mark
unmarked : (columns fields last : ℕ) (text : List ℕ) → are_lines columns (Some fields) last text ≡ true → strip_bom text ≡ text
unfolding are_lines strip_bom
unmarked columns fields last [] is = refl
unmarked columns fields last (a ∷ []) is = refl
unmarked columns fields last (a ∷ b ∷ []) is = refl
unmarked columns fields last (a ∷ b ∷ c ∷ rest) is = by (fields_after columns fields a) refl is
  where
    small : (now : ℕ) → After columns fields a now → a < 128
    small now (inl (end, full, one)) = omega (arith, end)
    small now (inr (inl (comma, next))) = omega (arith, comma)
    small now (inr (inr (byte, same))) = byte.ascii

    by : (now : Option ℕ) → fields_after columns fields a ≡ now → are_lines columns now a (b ∷ c ∷ rest) ≡ true
        → strip_bom (a ∷ b ∷ c ∷ rest) ≡ a ∷ b ∷ c ∷ rest
    by None gives is = absurd (cc)
    by (Some now) gives is =
        let low = small now (after columns fields a now gives) in
        rw (ne_eqb a 239 (λ same. absurd (omega (arith, low, same)))) refl

bare-texts : (row : List (List ℕ)) → All IsBare row → All IsUtf8 row
bare-texts row bare k d within = IsUtf8-from_ascii _ (bare k d within).ascii

module _ (timetable : TimetableView) (base : ℕ) (none : MovesNone timetable base) where
  same-row : (trip arrival departure : ℕ) (row : List (List ℕ)) → stop_time_written timetable base trip arrival departure row ≡ row
  same-row trip arrival departure row = rw (none (slot_in timetable trip row)) refl

  same-rows : (trip arrival departure : ℕ) (rows : List (List (List ℕ)))
      → map (stop_time_written timetable base trip arrival departure) rows ≡ rows
  same-rows trip arrival departure [] = refl
  same-rows trip arrival departure (row ∷ rows) =
      rw (same-row trip arrival departure row, same-rows trip arrival departure rows) refl

  -- a table of which no rows are moved
  same-table : (table : TableView) → with_times table timetable base ≡ table
  unfolding with_times
  same-table table = ap (λ rows. record { header = table.header; rows = rows }) (same-rows _ _ _ table.rows)

  -- a text that is the lines of a table
  by : (columns : ℕ) (text : List ℕ) → 1 < columns → are_lines columns (Some 1) 0 text ≡ true
      → Lines columns 1 text ⊎ ((text ≡ []) × ◌≡◌ {A = ℕ} 0 10)
      → IsTextPaper (λ table. text ≡ stop_times_written table timetable base) (table_in paper.StopTimes (File text))
  by columns text some is (inr (none, ends)) = absurd (omega (arith, ends))
  by columns text some is (inl l) =
      subst (λ read. IsTextPaper (λ table. text ≡ stop_times_written table timetable base) (or_refused paper.StopTimes read)) (sym back)
      (texts, same ∙ ap table_text (sym (same-table table)))
    where
      longer : 0 < length l.more
      longer = omega (arith, l.width, some)

      table : TableView
      table = record { header = l.field ∷ l.more; rows = l.rows }

      same : text ≡ table_text table
      same = l.is ∙ sym (records-plain l.field l.more l.rows longer l.bare)

      widths : All (λ (row : List (List ℕ)). length row ≡ length table.header) table.rows
      widths k d within = let width = l.widths k d within in omega (arith, width, l.width)

      back : table_of text ≡ Ok table
      back = ap table_of same
          ∙ table-back table (omega arith) widths (subst (λ text. strip_bom text ≡ text) same (unmarked columns 1 0 text is))

      texts : AreTexts table
      texts = record {
        header = bare-texts table.header (All-cons IsBare l.field l.more l.bare l.bares);
        rows = λ k d within. bare-texts (get_or l.rows k d) (l.fields_bare k d within);
      }

  -- a plain file is a table of texts, and is what is written of it where no rows are moved
  pub plain-copied : (columns : ℕ) (found : Found) (bytes : List ℕ) → Some bytes ≡ plain_bytes columns found
      → IsTextPaper (λ table. bytes ≡ stop_times_written table timetable base) (table_in paper.StopTimes found)
  plain-copied columns Missing bytes is = absurd (cc)
  plain-copied columns TooLong bytes is = absurd (cc)
  plain-copied columns (File text) bytes is = judged (is_plain columns text) refl is
    where
      judged : (plain : Bool) → is_plain columns text ≡ plain → Some bytes ≡ (if plain then Some text else None)
          → IsTextPaper (λ table. bytes ≡ stop_times_written table timetable base) (table_in paper.StopTimes (File text))
      judged false plain is = absurd (cc)
      judged true plain is =
          let parts = and_parts (nat_lt 1 columns) (are_lines columns (Some 1) 0 text) plain in
          let some = ltb-true 1 columns parts.0 in
          let same : text ≡ bytes = cc in
          subst (λ bytes. IsTextPaper (λ table. bytes ≡ stop_times_written table timetable base) (table_in paper.StopTimes (File text)))
          same (by columns text some parts.1 (lines columns 1 0 text some parts.1))
