mod KeyPlaces
