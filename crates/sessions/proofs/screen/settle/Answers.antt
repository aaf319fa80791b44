use Rattle.std.proofs.Common.{◌≡◌, sym, refl, ap, ◌∙◌, subst, arith}
use Rattle.levels.specs.Sets.{Set, words}
use Rattle.levels.specs.Size.{size}
use Rattle.levels.proofs.Sizes.{size_mono}
use Rattle.propagation.specs.State.{There}
use Rattle.runs.specs.State.{unstruck}
use Rattle.runs.specs.Screening.{Room, Tidy}
use Rattle.sessions.specs.Said.{room}
use Rattle.sessions.proofs.Screens.{enough, fails, succeeds, unstruck_few, unstruck_there}
use Rattle.sessions.proofs.screen.settle.Goals as goal

pub propagate-requires : goal.propagate-requires
propagate-requires g c =
    let m = g.B.RuleBook.meaning c.args.book.now in
    let t : Set = words c.args.struck.now in
    let e : words c.unstruck_words-start.result ≡ unstruck m t = c.unstruck_words-start.ensures in
    let h = enough m _ c.requires in
    record {
      long = h.long;
      there = subst (λ (s : Set). There m s) (sym e) (unstruck_there m t);
      empty = (h.no_options, h.no_items);
      options = let f = unstruck_few m t in let s = ap (size m) e in omega (arith, h.options);
      items = h.items;
    }

pub overflow_sub-crossed : goal.overflow_sub-crossed
overflow_sub-crossed g c =
    let m = g.B.RuleBook.meaning c.args.book.now in
    let f = size_mono m (words c.propagate.new.domains) (words c.unstruck_words-start.result) c.propagate.ensures.largest.inside in
    omega (arith, c.size-number.ensures, c.size.ensures)

pub returns-in-Some : goal.returns-in-Some
returns-in-Some g c =
    let m = g.B.RuleBook.meaning c.args.book.now in
    let q : Room = room c.args.counts.now (g.O.WaitingList.waits c.args.options.now) (g.O.WaitingList.room c.args.options.now) (g.I.WaitingList.waits c.args.items.now) (g.I.WaitingList.room c.args.items.now) in
    let q' : Room = room c.clear.new.counts (g.O.WaitingList.waits c.propagate.new.options) (g.O.WaitingList.room c.propagate.new.options) (g.I.WaitingList.waits c.propagate.new.items) (g.I.WaitingList.room c.propagate.new.items) in
    let tidy : Tidy m q q' = record {
      items_empty = c.propagate.ensures.empty.1;
      options_empty = c.propagate.ensures.empty.0;
      items_room = c.propagate.ensures.items;
      options_room = c.propagate.ensures.options;
      same_length = c.clear.auto.counts ∙ c.propagate.ensures.length;
      past = λ k h. c.clear.ensures.past k (omega (arith, c.items.ensures)) ∙ c.propagate.ensures.past k h;
    } in (
      c.in-Some.item,
      refl,
      fails c.args.level c.partner_count.result c.partner_count.ensures.value m (g.B.RuleBook.lawful c.args.book.now) (words c.args.struck.now) (words c.unstruck_words-start.result) (words c.propagate.new.domains) c.unstruck_words-start.ensures
          c.propagate.ensures.largest c.propagate.ensures.there q q' tidy c.in-Some.item c.in-Some.ensures (λ k h. c.clear.ensures.zero k (omega (arith, c.items.ensures))),
    )

pub returns : goal.returns
returns g c =
    let m = g.B.RuleBook.meaning c.args.book.now in
    let q : Room = room c.args.counts.now (g.O.WaitingList.waits c.args.options.now) (g.O.WaitingList.room c.args.options.now) (g.I.WaitingList.waits c.args.items.now) (g.I.WaitingList.room c.args.items.now) in
    let q' : Room = room c.propagate.new.counts (g.O.WaitingList.waits c.propagate.new.options) (g.O.WaitingList.room c.propagate.new.options) (g.I.WaitingList.waits c.propagate.new.items) (g.I.WaitingList.room c.propagate.new.items) in
    let tidy : Tidy m q q' = record {
      items_empty = c.propagate.ensures.empty.1;
      options_empty = c.propagate.ensures.empty.0;
      items_room = c.propagate.ensures.items;
      options_room = c.propagate.ensures.options;
      same_length = c.propagate.ensures.length;
      past = c.propagate.ensures.past;
    } in
    succeeds c.args.level c.partner_count.result c.partner_count.ensures.value m (g.B.RuleBook.lawful c.args.book.now) (words c.args.struck.now) (words c.unstruck_words-start.result) (words c.propagate.new.domains) c.unstruck_words-start.ensures
    c.propagate.ensures.largest c.propagate.ensures.there q q' tidy c.in_default.ensures c.propagate.ensures.counted c.size-number.result c.size.result c.size-number.ensures c.size.ensures
