-- A head is read in one way, and so as the parser of header blocks reads it.
use Rattle.std.proofs.Common.{◌≡◌, ℕ, ◌≤◌, List, [], ◌∷◌, ◌++◌, length, take, drop, map, refl, sym, ap, ◌∙◌, subst, arith, append_assoc, length-take}
use Rattle.std.proofs.lemmas.List.{drop_all, length-map}
use Rattle.httparse.specs.Ascii.{space}
use Rattle.httparse.specs.Grammar.{LineEnd, print_end, Field, print_section, ReadsSection}
use Rattle.httparse.specs.Spans.{header_bytes, span_bytes, IsSectionAt}
use Rattle.httparse.specs.declared.spans.HeaderSpan.{HeaderSpan}
use Rattle.httparse.proofs.GrammarLemmas.{cons-append}
use Rattle.satip_frame.specs.declared.heads.FirstLine.{FirstLine}
use Rattle.satip_frame.specs.Said.{Said}
use Rattle.satip_frame.specs.Head.{ReadsHead}
use Rattle.satip_frame.specs.Places.{Line, IsLineAt, said_at}
use Rattle.satip_frame.proofs.LineLemmas.{Line_deterministic}

regroup : (a b c r : List ℕ) → (a ++ space ∷ b ++ space ∷ c) ++ r ≡ a ++ (space ∷ (b ++ (space ∷ (c ++ r))))
regroup a b c r = simp (append_assoc, cons-append)

-- the first line of a head, as the code reads it
pub line_of_head : {head : List ℕ} {m : Said} (reads : ReadsHead head m)
    → Line (m.method, (m.target, (m.version, reads.line_end))) head reads.block
line_of_head {head} {m} reads = (
  m.target ++ (space ∷ (m.version ++ (print_end reads.line_end ++ reads.block))),
  (reads.method.0, reads.method.1, reads.text ∙ regroup m.method m.target m.version _),
  (
    m.version ++ (print_end reads.line_end ++ reads.block),
    (reads.target.0, reads.target.1, refl),
    (reads.version.0, reads.version_short, reads.version.1, refl),
  ),
)

-- the bytes of a first line that was read
pub line_text : (m t v : List ℕ) (e : LineEnd) (head rest : List ℕ) → Line (m, (t, (v, e))) head rest
    → head ≡ (m ++ space ∷ t ++ space ∷ v) ++ (print_end e ++ rest)
line_text m t v e head rest line =
    line.1.2 ∙ ap (λ x. m ++ (space ∷ x)) (line.2.1.2 ∙ ap (λ x. t ++ (space ∷ x)) line.2.2.3) ∙ sym (regroup m t v _)

module _ {head : List ℕ} {line : FirstLine} (at : IsLineAt head line) where
  -- the header block stands behind the line
  pub block_of_head : {m : Said} (reads : ReadsHead head m) → ReadsSection (drop line.end head) reads.fields reads.last []
  block_of_head {m} reads =
      let same = Line_deterministic.unique (span_bytes head line.method, (span_bytes head line.target, (span_bytes head line.version, at.line_end)))
      (m.method, (m.target, (m.version, reads.line_end))) head (drop line.end head) reads.block at.reads (line_of_head reads) in
      subst (λ x. ReadsSection x reads.fields reads.last []) (sym same.1) reads.section

  -- its headers are those that the parser found
  pub headers_of_head : {m : Said} (reads : ReadsHead head m) (headers : List HeaderSpan) (count : ℕ)
      → IsSectionAt head line.end headers (length head) count reads.fields reads.last → m.headers ≡ map (header_bytes head) (take count headers)
  headers_of_head reads headers count section = reads.headers ∙ sym section.fields_are

  -- a first line and a whole block are a head
  pub head_from_parts : (headers : List HeaderSpan) (count : ℕ) (fields : List Field) (last : LineEnd)
      → IsSectionAt head line.end headers (length head) count fields last → count ≤ 64
      → ReadsHead head (said_at head line (take count headers))
  head_from_parts headers count fields last section few =
      let same : length (take count headers) ≡ length fields = simp length-map at (ap length section.fields_are) in
      let few_fields : length fields ≤ 64 = omega (arith, length-take count headers) in record {
        method = (at.reads.1.0, at.reads.1.1);
        target = (at.reads.2.1.0, at.reads.2.1.1);
        version = (at.reads.2.2.0, at.reads.2.2.2);
        version_short = at.reads.2.2.1;
        line_end = at.line_end;
        block = drop line.end head;
        text = line_text _ _ _ at.line_end _ _ at.reads;
        fields = fields;
        last = last;
        section = (section.reads.0, section.reads.1 ∙ ap (λ t. print_section fields last ++ t) (drop_all (length head) head (omega arith)));
        few = few_fields;
        headers = section.fields_are;
      }
