use Rattle.std.proofs.Common.{rules, ◌≡◌, ◌+◌, ◌≤◌, ◌<◌, length, take, drop, ap, sym, ◌∙◌}
use Rattle.std.proofs.lemmas.List.{with_items_is}
use Rattle.http_req.proofs.Carrying.{read_gives, read_counts, read_fits, room_between, carried}
use Rattle.http_req.proofs.carry.Carry.fetch.Goals as goal

pub returns-clause-moves : goal.returns-clause-moves
returns-clause-moves g c =
    let start = c.self.inside.len in
    let end = c.saturating_add-end.result in
    let count = c.count_of.result in
    let read = c.read_between-answer.new.buffer in
    let reads = c.read_between-answer.ensures.reads in
    let old : take start c.self.inside.buffer.items ≡ c.args.self.now = search rules in
    let room : start < end = search rules in
    let within : start + count ≤ end = room_between c.deref_mut.result.now start end count room
    (read_fits _ _ _ _ _ _ c.read_between-answer.result count c.count_of.ensures reads) in
    let long : length read ≡ c.lengthen.new.buffer.len = c.read_between-answer.ensures.kept ∙ ap length c.deref_mut.ensures.value ∙ sym c.lengthen.new.buffer.ok.0 in
    record {
      given = take count (drop start (take end read));
      gives = read_gives _ _ _ _ _ _ c.read_between-answer.result count c.count_of.ensures reads;
      kept = ap (take (start + count)) (with_items_is c.lengthen.new.buffer read long) ∙ carried c.args.self.now c.lengthen.new.buffer.items read start count end within
          (c.read_between-answer.ensures.front ∙ ap (take start) c.deref_mut.ensures.value)
          (c.lengthen.ensures.front start c.self.invariant ∙ old);
      counts = read_counts _ _ _ _ _ _ c.read_between-answer.result reads;
    }
