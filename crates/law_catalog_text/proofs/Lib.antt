mod OfParsed
