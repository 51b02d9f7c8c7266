use Rattle.std.proofs.Common.{◌≡◌, ◌==◌, ◌++◌, [], ◌∷◌, length, sym, ap, ◌∙◌}
use Rattle.std.specs.List.{before_first, after_first}
use Rattle.percent_encoding.specs.Percent.{percent_decode}
use Rattle.percent_encoding.specs.Iter.{decoded_bytes}
use Rattle.query_read.specs.Spans.{pairs_at}
use Rattle.query_read.proofs.PairLemmas.{pairs_at-push, pairs_of_piece-some, some_length}
use Rattle.query_read.proofs.query.Query.add.Goals as goal

pub returns : goal.returns
returns c =
    let piece = c.args.piece.now in
    let bytes = c.self.inside.bytes.items in
    let spans = c.self.inside.spans.items in
    let name = percent_decode (before_first (λ b. b == 61) piece) in
    let text = percent_decode (after_first (λ b. b == 61) piece) in
    let with_name : c.append_to.new.out.items ≡ bytes ++ name =
    c.in_ok-append_to.ensures.ok
    ∙ ap (λ t. bytes ++ t) (c.percent_decode.ensures.bytes ∙ ap percent_decode c.cut.ensures.before) in
    let with_text : c.append_to-2.new.out.items ≡ (bytes ++ name) ++ text =
    c.in_ok-append_to-2.ensures.ok
    ∙ ap (λ t. t ++ decoded_bytes c.percent_decode-2.result) with_name
    ∙ ap (λ t. (bytes ++ name) ++ t) (c.percent_decode-2.ensures.bytes ∙ ap percent_decode c.cut.ensures.after) in
    let from = c.len-from.ensures ∙ c.self.inside.bytes.ok.0 in
    let middle = c.len-middle.ensures ∙ c.append_to.new.out.ok.0 ∙ ap length with_name in
    let to = c.len-to.ensures ∙ c.append_to-2.new.out.ok.0 ∙ ap length with_text in
    ap (pairs_at c.append_to-2.new.out.items) c.in_ok-push.ensures.items
    ∙ ap (λ b. pairs_at b (spans ++ record { from = c.len-from.result; middle = c.len-middle.result; to = c.len-to.result } ∷ [])) with_text
    ∙ pairs_at-push bytes name text spans c.len-from.result c.len-middle.result c.len-to.result c.self.invariant from middle to
    ∙ ap (λ ps. ps ++ (name, text) ∷ []) c.self.view_is
    ∙ ap (λ ps. c.args.self.now ++ ps) (sym (pairs_of_piece-some piece (some_length (length piece) c.if-is_empty.ensures)))
